-- What coordinators have of naming's answers is kept where a message is taken, where what naming counts on is given.
use Rattle.arj_law_parts.proofs.Words
use Words.{◌+◌, ◌<◌, ◌≡◌, ℕ, true, List, [], ◌∷◌, inl, inr, ⊎_elim, Option, Some, None, refl, sym, ◌∙◌, ap, subst, Bool, false}
use Words.{is_some, Ask, Asked}
use Words.{Head, Message, ObjectState, Path, asks, Reply, answers, top_of, Disk, Effect, Naming, Parts, Took, handle, is_meant, at_uid}
use Words.{uid_number, Node, number_tells, Seen, most_labels}
use Words.list
use Words.ask
use Rattle.arj_law_disk_view.proofs.Terms
use Terms.{IsGood, KnowsFew, KnowsUses, World, Office, Hold, State, never, up, KnowsKinds, Among, IsFixed, Kinds, IsOfTop, SeesNaming}
use Terms.{RecordsAreFree, AreOfTops, IsOfTops, IsForGrants, MayGoOn, MayRecord, asked_change, change_by, reply_change, NamesOwn}
use Terms.{ClaimsAsked, ClaimsGrants, SeesHeard, HasHeard, HoldsAlong, HoldsFrom, IsOwnVote, AreOnce, GivesNaming, IsHeardAt}
use Terms.{answers_commit, Packed}
use Terms.words
use Rattle.arj_law_disk_view.proofs.names.{Binding.path_untold, Heard.none_heard}
use Rattle.arj_law_disk_view.proofs.running
use running.{HeardAsk.Served_by, HeardAsk.ask_heard, HeardCalled.heard_called, HeardGoing.like_goes_on, HeardOther.other_heard}
use running.{HeardOutcomes.heard_answer}
use Rattle.arj_law_disk_view.proofs.view.Frames.{node_here}
use Rattle.arj_law_disk_view.specs.running.Decided.{AreCalled, IsPastNumber, most_version}
use Rattle.arj_law_lock_view.specs.records.Runs.{IsNewRecord}
use Rattle.arj_law_parts.specs.moves.Seen.{In}

-- ---- what naming counts on

-- a request that is of a top by the kinds is so in the machine
pub of_top : (tops : Kinds) (S : State) (p : Path) → KnowsKinds tops → IsFixed tops S → IsOfTops tops p → IsOfTop tops S p
of_top tops S p kinds fixed o = record {
  top = o.top;
  plain = ap (λ f. f (uid_number (top_of p))) fixed.serial ∙ kinds.apart (uid_number (top_of p)) o.top;
  path = ⊎_elim (λ alone. inl (alone.0, ap (λ f. f (uid_number (top_of p))) fixed.root ∙ alone.1))
      (λ behind. inr (behind.0, behind.1, ap (λ f. f (uid_number (top_of p))) fixed.root ∙ behind.2, behind.3, behind.4)) o.path;
}

module _ (x : ℕ) (R : World → Seen → Type 0) (gives : GivesNaming x R) (tops : Kinds) (k : ℕ) (d : Disk) (t : Parts) (n : Naming) (from : ℕ)
    (m : Message) (M : Seen) (A : Office) (at : IsHeardAt x R tops A (k, d, t) M) (sent : In (record { from = from; to = k; message = m })
    M.sent) (named : t.naming ≡ Some n) (of : AreOfTops tops m) (free : RecordsAreFree (up k d t M)) where
  claims : ClaimsAsked x A (asks m)
  claims = at.heard.posts (record { from = from; to = k; message = m }) sent

  pub may_record : MayRecord x d n m A
  may_record h y b i g asking B names entry about now unrecorded = (
    ap (λ z. z.had (uid_number (top_of h.path)) z.inc) names
        ∙ subst (λ j. A.names.had (uid_number (top_of h.path)) j ≡ true) inc_is (had about),
    λ unasked hold pending same.
        let holder = (let e = entry.pair in e.holder hold pending) in
        let top = number_tells holder.action (top_of h.path) (ap (λ (z : Hold). z.top) holder.is ∙ same) in
        free here t n (record { from = from; to = k; message = m }) h x b i g there refl named sent (asking
        ∙ ap (λ z. Some (h, ask.Record z b i g)) about) (new (ap (λ z. z.asked (uid_number (top_of h.path))) (sym names) ∙ unasked))
        holder.states holder.state (subst (λ u. at_uid u (let e = d.names in e.pend) ≡ Some holder.states) top holder.prepared)
        (among holder.states holder.state (let o = holder.of in o.0)) (let o = holder.of in o.1),
  )
    where
      inc_is : g ≡ A.names.inc
      inc_is = now ∙ ap (λ z. z.inc) names

      here : Node
      here = record { number = k; disk = d; live = Some t }

      there : (let S = up k d t M in S.nodes 1) ≡ Some (record { number = k; disk = d; live = Some t })
      there = subst (λ j. (let S = up k d t M in S.nodes j) ≡ Some (record { number = k; disk = d; live = Some t })) (let w = at.knows in
          w.naming_here n named).0 (node_here M k (record { number = k; disk = d; live = Some t }))

      seen : SeesNaming x tops n A.world.disk A.names
      seen = let w = at.both.names in w.memory (record { number = k; disk = d; live = Some t }) t n there refl named

      its_top : IsOfTop tops A.world.disk h.path
      its_top = of_top tops A.world.disk h.path (let w = at.knows in w.kinds) (let s = at.both.disks in
          s.fixed) (of h (ask.Record y b i g) asking)

      new : A.names.asked (uid_number (top_of h.path)) ≡ false → IsNewRecord x h b g n
      new off = record {
        named = unrecorded.named;
        made = unrecorded.made;
        there = unrecorded.there;
        of = unrecorded.of;
        unrecorded = unrecorded.unrecorded;
        same = unrecorded.same;
        untold = unrecorded.untold;
        inc = inc_is ∙ seen.inc_is;
        unasked = (let o = seen.object unrecorded.named unrecorded.there in o.asked (top_of h.path) (λ nested. never its_top.top nested.0)
            (path_untold x tops n A.world.disk A.names h.path seen its_top unrecorded.untold)) ∙ off;
      }

      among : (states : List ObjectState) (s : ObjectState) → Among s states → list.In s states
      among [] s i = absurd i
      among (z ∷ zs) s (inl same) = inl same
      among (z ∷ zs) s (inr i) = inr (among zs s i)

      had : y ≡ x → A.names.had (uid_number (top_of h.path)) g ≡ true
      had same = (subst (ClaimsAsked x A) asking claims) same

  pub for_grants : IsForGrants x d n m A
  for_grants h grants excluded included asking new =
      let c : ClaimsGrants x A (uid_number (top_of h.path)) grants = subst (ClaimsAsked x A) asking claims in
      (c.1, gives.next tops k d t n from m h grants excluded included M A at sent named asking new)

-- ---- a message

pub heard_message : (x : ℕ) (R : World → Seen → Type 0) → ((W : World) (M : Seen) → R W M → IsGood M × KnowsFew M) → GivesNaming x R →
    (tops : Kinds) (e k : ℕ) (d : Disk) (t v : Parts) (from : ℕ) (m : Message) (outs : List Effect) (M : Seen) (A : Office) → AreOfTops tops
    m → IsHeardAt x R tops A (k, d, t) M → ((n : Naming) → t.naming ≡ Some n → NamesOwn n) → RecordsAreFree (up k d t M) → KnowsUses t.coord
    → In (record { from = from; to = k; message = m }) M.sent → IsOwnVote m → is_meant t m ≡ true → handle k d t from m ≡ Took v outs
    → (h : HasHeard (SeesHeard x) x tops (change_by x d t m) A
    (record { event = e; node = k; disk = d; before = t; outs = outs; after = v }, M)) × MayGoOn x h.office v.coord
    × ((n : Naming) → t.naming ≡ Some n → MayRecord x d n m h.office × IsForGrants x d n m h.office)
heard_message x R runs gives tops e k d t v from m outs M A of at own free uses sent owned meant is = by (asks m) refl
  where
    by : (o : Option (Head × Ask)) → asks m ≡ o → (h : HasHeard (SeesHeard x) x tops (change_by x d t m) A
        (record { event = e; node = k; disk = d; before = t; outs = outs; after = v }, M)) × MayGoOn x h.office v.coord
        × ((n : Naming) → t.naming ≡ Some n → MayRecord x d n m h.office × IsForGrants x d n m h.office)
    by (Some b) asking =
        let mine : (n : Naming) → t.naming ≡ Some n → (k ≡ 1) × NamesOwn n = λ n named.
        ((let w = at.knows in w.naming_here n named).0, own n named) in
        let s : Served_by x tops e k d t v from m outs M (runs _ _ at.run).0 (runs _ _ at.run).1 mine b.0 b.1 sent asking A at.both at.heard
        (change_by x d t m) = ask_heard x tops e k d t v from m outs M (runs _ _ at.run).0 (runs _ _ at.run).1 mine b.0 b.1 sent asking
        A at.both at.heard is in
        let now : IsHeardAt x R tops s.office (k, d, t) M = record {
          unwalked = at.unwalked;
          knows = at.knows;
          run = subst (λ (W : World). R W (up k d t M)) (sym (let z = s.only in z.world)) at.run;
          both = s.sees;
          heard = s.heard;
          decided = (let q = at.decided in let same = sym (let z = s.only in z.world) in record {
            writer = subst (λ (W : World). W.disk.first.writer ≡ uid_number (let m = M.start.marks.states x in m.writer)) same q.writer;
            short = subst (λ (W : World). W.disk.first.version + most_labels < most_version) same q.short;
            past = subst (λ (W : World). (g : Packed) → words.In g (W.disk.first ∷ W.disk.past) →
                IsPastNumber M.start g.writer) same q.past;
            once = subst (λ (W : World). AreOnce W.disk.tops) same q.once;
            called = subst (λ (W : World). AreCalled M.lines W.disk.tops) same q.called;
          });
        } in (
          record { office = s.office; only = s.only; both = s.sees; along = s.along },
          like_goes_on x tops k d t M s.office at.knows s.sees v.coord s.like,
          λ n named. (
            may_record x R gives tops k d t n from m M s.office now sent named of free,
            for_grants x R gives tops k d t n from m M s.office now sent named of free,
          ),
        )
    by None none = with_answers (answers m) refl
      where
        nothing : (n : Naming) (D : Office) → MayRecord x d n m D × IsForGrants x d n m D
        nothing n D = (
          (λ h y b i g asking. absurd (never (ap is_some asking) (ap is_some none))),
          λ h grants excluded included asking. absurd (never (ap is_some asking) (ap is_some none)),
        )

        with_answers : (o : Option (Asked × Reply)) → answers m ≡ o → (h : HasHeard (SeesHeard x) x tops (change_by x d t m) A
            (record { event = e; node = k; disk = d; before = t; outs = outs; after = v }, M)) × MayGoOn x h.office v.coord
            × ((n : Naming) → t.naming ≡ Some n → MayRecord x d n m h.office × IsForGrants x d n m h.office)
        with_answers (Some a) answering = by_doing (answers_commit a.0 t.coord) refl
          where
            by_doing : (b : Bool) → answers_commit a.0 t.coord ≡ b → (h : HasHeard (SeesHeard x) x tops (change_by x d t m) A
                (record { event = e; node = k; disk = d; before = t; outs = outs; after = v }, M)) × MayGoOn x h.office v.coord
                × ((n : Naming) → t.naming ≡ Some n → MayRecord x d n m h.office × IsForGrants x d n m h.office)
            by_doing true commits = let r = heard_answer x R runs tops e k d t v from m a.0 a.1 outs M A at uses sent owned none answering
                commits is in (r.0, r.1, λ n named. nothing n r.0.office)
            by_doing false calls = let r = heard_called x tops e k d t M A (runs _ _ at.run).0 (runs _ _ at.run).1 at.knows at.both at.heard
                v from m a.0 a.1 outs sent none answering calls is in (r.0, r.1, λ n named. nothing n r.0.office)
        with_answers None also =
            let g = other_heard x tops e k d t v from m outs M A at.both at.heard none also is in (
              record {
                office = A;
                only = none_heard A;
                both = at.both;
                along = subst (λ o. HoldsAlong (HoldsFrom (SeesHeard x) x tops o A)
                    (record { event = e; node = k; disk = d; before = t; outs = outs; after = v }) M)
                    (sym (ap (asked_change x d t m) none ∙ ap (reply_change x t.coord) also)) g.1;
              },
              like_goes_on x tops k d t M A at.knows at.both v.coord g.0,
              λ n named. nothing n A,
            )
