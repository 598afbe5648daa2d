-- A Confirm at naming, walked with both halves.
use Rattle.arj_law_parts.proofs.Words
use Words.{◌≡◌, ◌⊎◌, ◌&&◌, ℕ, List, [], ◌∷◌, ◌++◌, Bool, true, false, Option, Some, None, refl, sym, ◌∙◌, ap, subst, inl, inr, ⊎_elim}
use Words.{list_all, option_map, and_parts, Head, ConfirmedReply, is_on, Reply, asked_by, response, top_of, Grants, Marks, confirm}
use Words.{confirms, wanted, Disk, Effect, Say, Send, Do, Work, Look, PutInc, Prepare, Commit, Abort, PutIntent, RemoveIntent, is_prepared}
use Words.{Naming, Parts, Took, Void, if_naming, sends_answer, serve, served, with_naming, uid_number, AreAll, is_naming_effect}
use Words.{is_names_work, all_both, confirm_own, Seen}
use Words.ask
use Rattle.arj_law_disk_view.proofs.Terms
use Terms.{World, Allowed, after, IsNext, end_of, Named, Names, Office, runs_keep, never, or_cases, some_is, up, Walks, Up, halted}
use Terms.{IsConfirmation, IsNewConfirm, IsUnconfirmed, with_locks, IsConfirmedNow, SeesEntry, Along, ClaimsAsk, IsLater, Kinds}
use Terms.{IsSeenByDisks, SeesDisks, followed, IsConfirmedBy, CountsOnGrants, IsSeenFrom, OnlyMemory, SeesBoth, leaves_the_inc, IsOfTop}
use Terms.{SeesNaming}
use Terms.machine
use Rattle.arj_law_disk_view.proofs.names.Binding.{path_untold}
use Rattle.arj_law_disk_view.proofs.names.NamingWalks.{memory, of_on}
use Rattle.arj_law_disk_view.proofs.names.NewConfirms.{confirm_passed, confirm_present, exclude_free, new_confirms_are_acts}
use Rattle.arj_law_disk_view.proofs.names.NewConfirms.{new_confirms_are_booked, old_confirms_are_nothing}
use Rattle.arj_law_disk_view.proofs.names.Noting.{excludes_are_acts}
use Rattle.arj_law_disk_view.proofs.names.Onward.{onward_by, onward_still}
use Rattle.arj_law_disk_view.proofs.names.Pairing.{Still, left_disk, naming_on, root_same, seen_as, still, still_only, stopped_both}
use Rattle.arj_law_disk_view.proofs.names.Pairing.{stopped_still, unfollowed, walks_at}
use Rattle.arj_law_disk_view.proofs.view
use view.{ConfirmWalks.confirms_walk_once, Frames.node_here, Later.effects_are_later, Later.later_on, StoreWalks.took_is}
use Rattle.arj_law_disk_view.specs.names.Both.{ConfirmsKeepBoth}

-- ---- naming leaves the incarnation

names_leave : (w : Work) → is_names_work w ≡ true → leaves_the_inc (Do w) ≡ true
names_leave Look is = refl
names_leave (PutInc i) is = absurd (never is refl)
names_leave (Prepare r u states) is = refl
names_leave (Commit r u) is = refl
names_leave (Abort r u) is = refl
names_leave (PutIntent u i) is = refl
names_leave (RemoveIntent u) is = refl

pub naming_leaves : (es : List Effect) → AreAll is_naming_effect es → AreAll leaves_the_inc es
naming_leaves [] all = refl
naming_leaves (Say b ∷ es) all = naming_leaves es (and_parts (is_naming_effect (Say b)) (list_all is_naming_effect es) all).1
naming_leaves (Send to m ∷ es) all = absurd (never (and_parts (is_naming_effect (Send to m)) (list_all is_naming_effect es) all).0 refl)
naming_leaves (Do w ∷ es) all = let p = and_parts (is_naming_effect (Do w)) (list_all is_naming_effect es) all in
    all_both leaves_the_inc (Do w ∷ []) es (ap (λ b. b && true) (names_leave w p.0)) (naming_leaves es p.1)

-- a confirmation decides no top, ends none, and changes no root
confirmed_tops : (t : ℕ) (W : World) (f : machine.Effect) → IsConfirmation t f →
    ((after W f).disk.tops ≡ W.disk.tops) × ((after W f).disk.root ≡ W.disk.root) × ((after W f).disk.bare ≡ W.disk.bare)
confirmed_tops t W f (inl is) = subst (λ z. ((after W z).disk.tops ≡ W.disk.tops) × ((after W z).disk.root ≡ W.disk.root)
    × ((after W z).disk.bare ≡ W.disk.bare)) (sym is) (refl, refl, refl)
confirmed_tops t W f (inr (inl is)) = subst (λ z. ((after W z).disk.tops ≡ W.disk.tops) × ((after W z).disk.root ≡ W.disk.root)
    × ((after W z).disk.bare ≡ W.disk.bare)) (sym is) (refl, refl, refl)
confirmed_tops t W f (inr (inr is)) = subst (λ z. ((after W z).disk.tops ≡ W.disk.tops) × ((after W z).disk.root ≡ W.disk.root)
    × ((after W z).disk.bare ≡ W.disk.bare)) (sym is) (refl, refl, refl)

module _ (x : ℕ) (tops : Kinds) (unwalked : tops.walk ≡ None) (e : ℕ) (d : Disk) (t v : Parts) (n : Naming) (from : ℕ) (h : Head)
    (grants : Grants) (excluded included : Marks) (outs : List Effect) (A : Office) (M : Seen) (named : t.naming ≡ Some n)
    (prepared : is_prepared (top_of h.path) d.names ≡ true → is_on n.confirmed (top_of h.path) ≡ true)
    (of : IsOfTop tops A.world.disk h.path) (claims : ClaimsAsk x A.world 1 h (ask.Confirm grants excluded included))
    (counts : IsNewConfirm h.path grants excluded included d.names n →
    CountsOnGrants x A.world.disk A.names (uid_number (top_of h.path)) grants × IsNext A.world.disk (uid_number (top_of h.path)))
    (both : SeesBoth x tops A (up 1 d t M)) where
  now : SeesNaming x tops n A.world.disk A.names
  now = memory x tops unwalked e d t n from h A M named both

  entry : SeesEntry x d.names A.world.disk
  entry = both.disks.entry (record { number = 1; disk = d; live = Some t }) (node_here M 1 (record { number = 1; disk = d; live = Some t }))

  -- ---- the office once the machine has confirmed

  -- by acts, and then whatever the machine did, which naming's half had no part in
  record Confirmed (U : World) : Type 0 where
    names : Names
    named_then : Named (record { world = U; names = names })
    inc : names.inc ≡ A.names.inc
    only : OnlyMemory A (record { world = U; names = names })
    seen : SeesNaming x tops (confirms (top_of h.path) (with_locks h.path grants excluded d.names n)) U.disk names

  confirmed_office : IsNewConfirm h.path grants excluded included d.names n → (f : machine.Effect) →
      IsConfirmation (uid_number (top_of h.path)) f → Allowed A.world f → (U : World) → U.disk.root ≡ A.world.disk.root →
      Along (record { from = after A.world f; noted = λ z. false }) U → Confirmed U
  confirmed_office new f which allowed U root along =
      let go = new_confirms_are_acts x tops h.path grants excluded included d.names n A both.named now entry of claims.1 (counts new).0
      (counts new).1 new f which allowed in
      let B : Office = end_of A go.acts in
      let by : IsConfirmedBy A B f = go.there.0 in
      let st : Still B U = still B U (runs_keep A go.acts go.may both.named)
      (subst (λ V. Along (record { from = V; noted = λ z. false }) U) (sym by.world) along) in
      let fixed = confirmed_tops (uid_number (top_of h.path)) A.world f which in
      record {
        names = B.names;
        named_then = st.named;
        inc = by.inc;
        only = record {
          later = later_on A.world B.world U (subst (IsLater A.world) (sym by.world)
              (effects_are_later A.world (f ∷ []) (allowed, tt) (let c = both.named in c.whole))) st.later;
          tops = st.tops ∙ ap (λ (V : World). V.disk.tops) by.world ∙ fixed.0;
          bare = λ z on. ap (λ (g : ℕ → Bool). g z) (sym fixed.2) ∙ ap (λ (V : World). V.disk.bare z) (sym by.world) ∙ st.bare z on;
          had = by.had;
          kept = by.kept;
          answers = by.answers;
          inc = by.inc;
          confd = by.confd;
          onward = onward_by A (record { world = U; names = B.names }) f allowed (confirm_present x tops h.path grants excluded included
              d.names n A both.named now entry of claims.1 (counts new).0 (counts new).1 new f which allowed) (confirm_passed x tops h.path
              grants excluded included d.names n A both.named now entry of claims.1 (counts new).0 (counts new).1 new f which allowed) along
              by.had by.inc;
        };
        seen = naming_on x tops (confirms (top_of h.path) (with_locks h.path grants excluded d.names n)) B.world.disk U.disk B.names
            (root ∙ sym (ap (λ (V : World). V.disk.root) by.world ∙ fixed.1)) go.there.1;
      }

  abbrev Stopped : Seen → Type 0
  Stopped N = IsSeenByDisks x (followed tops A.world (λ z. false)) N
      ⊎ (IsNewConfirm h.path grants excluded included d.names n × IsConfirmedNow x tops (uid_number (top_of h.path)) A.world N)

  stops : (c : Disk) (N : Seen) → c.inc ≡ d.inc → N.nodes ≡ M.nodes → Stopped (halted e 1 c N) → IsSeenFrom x tops A (halted e 1 c N)
  stops c N inc same (inl early) = stopped_still x tops unwalked e 1 d t v A M both c N inc same early
  stops c N inc same (inr (new, (f, which, allowed, (U, s)))) =
      let disks : SeesDisks x tops U (halted e 1 c N) = unfollowed x tops unwalked (λ z. false) (after A.world f) U (halted e 1 c N) s in
      let q : Confirmed U = confirmed_office new f which allowed U (root_same x tops 1 d (Some t) A M both U (halted e 1 c N) disks)
      s.along in (
        record { world = U; names = q.names },
        q.only,
        stopped_both x tops 1 d (Some t) A M both e (record { world = U; names = q.names }) N c q.named_then q.inc disks inc same
            (λ other. absurd (never refl other)),
      )

  -- ---- the end

  abbrev End : Disk → Seen → Type 0
  End c N = ((o : Naming) × (v ≡ with_naming t o) × IsUnconfirmed h.path grants excluded included d.names n o
      × IsSeenByDisks x (followed tops A.world (λ z. false)) (up 1 c v N))
      ⊎ (IsNewConfirm h.path grants excluded included d.names n × (v ≡ with_naming t (confirms (top_of h.path)
      (with_locks h.path grants excluded d.names n))) × IsConfirmedNow x tops (uid_number (top_of h.path)) A.world (up 1 c v N))

  -- naming's part is this one at the end
  part_is : (o p : Naming) → v ≡ with_naming t o → v.naming ≡ Some p → o ≡ p
  part_is o p is there = some_is refl (ap (λ (z : Parts). z.naming) (sym is) ∙ there)

  -- what the machine didn't confirm: by acts from where the disk half has come to
  unconfirmed : (W : World) → Still A W → W.disk.root ≡ A.world.disk.root → IsOfTop tops W.disk h.path → (o : Naming) →
      IsUnconfirmed h.path grants excluded included d.names n o
      → (B : Office) × (B.world ≡ W) × Named B × (B.names.inc ≡ A.names.inc) × OnlyMemory A B × SeesNaming x tops o B.world.disk B.names
  unconfirmed W st root of_now o (inl is) = (
    record { world = W; names = A.names },
    refl,
    st.named,
    refl,
    still_only A W st,
    subst (λ z. SeesNaming x tops z W.disk A.names) (sym is) (naming_on x tops n A.world.disk W.disk A.names root now),
  )
  unconfirmed W st root of_now o (inr (inl (is, new))) =
      let B : Office = record { world = W; names = A.names } in
      let go = excludes_are_acts x tops h.path (wanted (top_of h.path) grants excluded d.names) n B st.named (naming_on x tops n
      A.world.disk W.disk A.names root now) of_now (exclude_free h.path grants excluded included d.names n new.free) in
      let only = go.there.0 in (
        end_of B go.acts,
        only.world,
        runs_keep B go.acts go.may st.named,
        only.inc,
        record {
          later = subst (IsLater A.world) (sym only.world) st.later;
          tops = ap (λ (V : World). V.disk.tops) only.world ∙ st.tops;
          bare = λ z on. st.bare z (ap (λ (V : World). V.disk.bare z) (sym only.world) ∙ on);
          had = only.had;
          kept = only.kept;
          answers = only.answers;
          inc = only.inc;
          confd = λ z on. ap (λ f. f z) only.confd ∙ on;
          onward = onward_still A (end_of B go.acts) W st.onward st.unconfirmed st.unpassed only.world;
        },
        subst (λ z. SeesNaming x tops z (end_of B go.acts).world.disk (end_of B go.acts).names) (sym is) go.there.1,
      )
  unconfirmed W st root of_now o (inr (inr (is, again, untold))) =
      let B : Office = record { world = W; names = A.names } in
      let seen : SeesNaming x tops n W.disk A.names = naming_on x tops n A.world.disk W.disk A.names root now in
      let on : is_on n.confirmed (top_of h.path) ≡ true = ⊎_elim (λ c. c) (λ p. prepared p)
      (or_cases (is_on n.confirmed (top_of h.path)) (is_prepared (top_of h.path) d.names) again) in
      let told = path_untold x tops n W.disk A.names h.path seen of_now untold in
      let known : A.names.confd (uid_number (top_of h.path)) ≡ true = sym
      (seen.confirmed_is (top_of h.path) (λ nested. never of_now.top nested.0) told.0) ∙ on in (
        B,
        refl,
        st.named,
        refl,
        still_only A W st,
        subst (λ z. SeesNaming x tops z W.disk A.names) (sym is) (old_confirms_are_nothing x tops h.path n B seen known),
      )

  ends : (c : Disk) (L : Seen) → c.inc ≡ d.inc → L.nodes ≡ M.nodes → End c L → IsSeenFrom x tops A (up 1 c v L)
  ends c L inc same (inl (o, is, left, (W, s))) =
      let disks : SeesDisks x tops W (up 1 c v L) = unfollowed x tops unwalked (λ z. false) A.world W (up 1 c v L) s in
      let q = unconfirmed W (still A W both.named s.along) (root_same x tops 1 d (Some t) A M both W (up 1 c v L) disks)
      (of_on tops h.path A.world.disk W.disk both.disks.fixed disks.fixed of) o left in (
        q.0,
        q.4,
        seen_as x tops 1 d (Some t) A M both v q.0 L c q.2 q.3 (subst (λ V. SeesDisks x tops V (up 1 c v L)) (sym q.1) disks) inc same
            (λ p one there. subst (λ z. SeesNaming x tops z (q.0).world.disk (q.0).names) (part_is o p is there) q.5)
            (λ other. absurd (never refl other)),
      )
  ends c L inc same (inr (new, is, (f, which, allowed, (U, s)))) =
      let disks : SeesDisks x tops U (up 1 c v L) = unfollowed x tops unwalked (λ z. false) (after A.world f) U (up 1 c v L) s in
      let q : Confirmed U = confirmed_office new f which allowed U (root_same x tops 1 d (Some t) A M both U (up 1 c v L) disks)
      s.along in (
        record { world = U; names = q.names },
        q.only,
        seen_as x tops 1 d (Some t) A M both v (record { world = U; names = q.names }) L c q.named_then q.inc disks inc same
            (λ p one there. subst (λ z. SeesNaming x tops z U.disk q.names) (part_is (confirms (top_of h.path)
            (with_locks h.path grants excluded d.names n)) p is there) q.seen) (λ other. absurd (never refl other)),
      )

  -- ---- the walk

  confirm_leaves : serve 1 d t from h (ask.Confirm grants excluded included) ≡ Took v outs → AreAll leaves_the_inc outs
  confirm_leaves is = by (let s = confirm h.path grants excluded included d.names n in s.reply) refl
    where
      took : served from h (with_naming t) Reply.Confirmed (confirm h.path grants excluded included d.names n) ≡ Took v outs
      took = sym (ap (λ o.
          if_naming (λ z. served from h (with_naming t) Reply.Confirmed (confirm h.path grants excluded included d.names z)) o) named) ∙ is

      by : (o : Option ConfirmedReply) → (let s = confirm h.path grants excluded included d.names n in s.reply) ≡ o →
          AreAll leaves_the_inc outs
      by None none = absurd (void (sym (ap (λ o. sends_answer from h (with_naming t (confirm h.path grants excluded included d.names
          n).part) (confirm h.path grants excluded included d.names n).outs (option_map Reply.Confirmed o)) none) ∙ took))
        where
          void : Void [] ≡ Took v outs → ⊥
          void is = cc is
      by (Some r) reply =
          took_is x 1 tops e (λ a b. AreAll leaves_the_inc b) (with_naming t (confirm h.path grants excluded included d.names n).part)
          ((confirm h.path grants excluded included d.names n).outs ++ Send from (response (asked_by h) (Reply.Confirmed r)) ∷ []) v outs
          (sym (ap (λ o. sends_answer from h (with_naming t (confirm h.path grants excluded included d.names n).part)
          (confirm h.path grants excluded included d.names n).outs (option_map Reply.Confirmed o)) reply) ∙ took)
          (all_both leaves_the_inc (confirm h.path grants excluded included d.names n).outs
          (Send from (response (asked_by h) (Reply.Confirmed r)) ∷ []) (naming_leaves
          (confirm h.path grants excluded included d.names n).outs (confirm_own h.path grants excluded included d.names n)) refl)

  pub confirm_both : serve 1 d t from h (ask.Confirm grants excluded included) ≡ Took v outs →
      Walks (IsSeenFrom x tops A) e 1 outs (Up (IsSeenFrom x tops A) 1 v) d M
  confirm_both is = walks_at e 1 d M (λ N. Stopped N) (IsSeenFrom x tops A) (λ c N. End c N) (Up (IsSeenFrom x tops A) 1 v) stops outs
      (confirm_leaves is) d M refl refl (λ L inc same end. ends (left_disk outs d) L inc same end)
      (confirms_walk_once x tops e d t v n from h grants excluded included outs M named A.world both.disks claims
      (λ new. new_confirms_are_booked x tops h.path grants excluded included d.names n A both.named now entry of claims.1 (counts new).0
      (counts new).1 new) is)

pub confirms_keep_both : ConfirmsKeepBoth
confirms_keep_both x tops e d t v n from h grants excluded included outs A M unwalked named is prepared of claims counts both =
    confirm_both x tops unwalked e d t v n from h grants excluded included outs A M named prepared of claims counts both is
