-- What is known of servers is kept in each run.
use Rattle.arj_law_parts.proofs.Words
use Words.{◌≡◌, ◌≢◌, ◌≤◌, ◌<◌, ◌==◌, ◌+◌, ◌*◌, ◌&&◌, ℕ, List, [], ◌∷◌, ◌++◌, Bool, true, false, cond, Option, Some, None, refl, sym, ◌∙◌}
use Words.{ap, subst, inl, inr, arith, map, eqb-true, and_parts, uid_is, Uid, Ask, Asked, Head, Header, Kind, Label, Message, ObjectState}
use Words.{asks, object, Reply, actor, answers, ask_kind, reply_kind, again_all, begin_action, back_lines, recovered_naming, next_ask}
use Words.{next_node, Coord, Doing, doing_of, After, Before, Did, Disk, Do, Effect, InPart, Intent, Look, PutInc, Say, Stop, stopped, tell}
use Words.{tell_all, tick_outs, Named, next_server, Naming, listed_entry, Handled, Parts, Took, answer_is_meant, asked_is_meant, handle}
use Words.{holders, is_loaded_for, is_loaded_in, is_meant, prepared_actions, query_about, reply_is_meant, with_coord, is_own, at_number}
use Words.{binding_number, uid_set, without_number, Input, Node, acts, hello_to, naming_at, naming_back, numbers_to, parent_of}
use Words.{parts_in, recovered_records, refusal_up, restart_outs, tolds_again, Labelled, Seen, is_serial}
use Words.ask
use Words.body
use Words.ending
use Words.loaded
use Words.input
use Rattle.arj_law_runs.proofs.Terms
use Terms.{IsAtStarts, disk_by, paths_of, AreTrue, GoesOn, AreOfInc, IsOfInc, IsTrulyHandled, Paths, FitsCall, Homes, IsNamingSo}
use Terms.{IsPastZero, NamesReply, Reach}
use Terms.{IsNumbered, begun_tree, path_found, doing_by, all_both, all_flat, all_map, restart_of, true_inc, truly_handled, true_on}
use Terms.{true_query, true_records, well_acked, well_acts, well_again, well_heard, IsGood, DidKeeps, is_act, In, at, down, said, up, Up}
use Terms.{Walks, halted, walks_to, IsOfStep, KnowsCalls, bare, AreApart, AreBelow, CountFits, Gifts, HasGiven, HasServers, IsHome}
use Terms.{LivesRun, LivesWith, NamesPost, Passes, PassesAll, KnowsRun, Trees}
use Terms.seen
use Rattle.arj_law_parts.proofs.parts
use parts.{LivesNamed.recovered_so}
use parts.LivesCoords.{know_acts, know_again, know_new}
use Rattle.arj_law_parts.specs.parts.Lives.{IsOfObject}
use Rattle.arj_law_runs.proofs.{calls.CoordOuts.quiet_again, calls.Given.KeepsGiven, calls.WorldWalks.around_of, calls.WorldWalks.own_of}
use Rattle.arj_law_runs.proofs.{kept.Starts.first_at, kept.Starts.first_up, kept.Starts.live_first, kept.Walked.other_number}
use Rattle.arj_law_runs.proofs.{kept.Walked.same_number}
use Rattle.arj_law_runs.proofs.calls.LivedCounts.{Grows, GrowsBy, message_grows}
use Rattle.arj_law_runs.proofs.calls.LivedMessages.{Binds, By, asks_sent, coord_sent, message_lived, quiet_sent, sent_both}
use Rattle.arj_law_runs.proofs.calls.LivedWalks.{AllSent, AreGivenOff, AreLivedOff, IsNumberedSo, NamesSent, PassesOff, all_lived}
use Rattle.arj_law_runs.proofs.calls.LivedWalks.{down_passes, lived_walk}
use Rattle.arj_law_runs.proofs.calls.ServerCalls.{GoesOn as ServerGoes, copy_on, never, some_is}
use Rattle.arj_law_runs.proofs.kept.Handled.{good_coord, it, one_tree, own_of_disk, tops_of_disk}
use Rattle.arj_law_runs.specs.calls.Coords.{IsCounted}

none_is : {A : Type 0} {x : A} → None ≡ Some x → ⊥
none_is {A} {x} is = let no_way : ◌≡◌ {A = Option A} None (Some x) = is in cc

abbrev rest : List Effect → List Effect
rest [] = []
rest (e ∷ es) = es

below_more : (a b : ℕ) → a ≤ b → (given : Gifts) → AreBelow a given → AreBelow b given
below_more a b le [] all = tt
below_more a b le (g ∷ gs) all = (less g.0 all.0, below_more a b le gs all.1)
  where
    less : (n : ℕ) → n < a → n < b
    less n l = omega (arith, l, le)

-- ---- what is known of a node and of the others

module _ (k : ℕ) (d : Disk) (live : Option Parts) (M : Seen) (given : Gifts) (l : LivesWith given (at k d live M)) where
  abbrev its_node : Node
  its_node = record { number = k; disk = d; live = live }

  here : (let S = at k d live M in S.nodes k) ≡ Some (record { number = k; disk = d; live = live })
  here = λ i. cond (same_number k i) (Some (record { number = k; disk = d; live = live })) (M.nodes k)

  elsewhere : (j : ℕ) → (j ≡ k → ⊥) → (let S = at k d live M in S.nodes j) ≡ M.nodes j
  elsewhere j other = λ i. cond (other_number j k other i) (Some (record { number = k; disk = d; live = live })) (M.nodes j)

  off_given : AreGivenOff k given M
  off_given j n other is = l.places j n (elsewhere j other ∙ is)

  own_given : HasGiven given k (record { number = k; disk = d; live = live })
  own_given = l.places k its_node here

  all_pass : (reach : Reach) → PassesOff k reach M → Passes reach k d.inc live → PassesAll reach (at k d live M)
  all_pass reach off own = record { zero = off.0; nodes = λ j n is. by j n (j == k) refl is }
    where
      by : (j : ℕ) (n : Node) (b : Bool) → (j == k) ≡ b →
          cond b (Some (record { number = k; disk = d; live = live })) (M.nodes j) ≡ Some n → Passes reach j n.disk.inc n.live
      by j n true at_k is = subst (λ z. Passes reach z n.disk.inc n.live) (sym (eqb-true j k at_k))
          (subst (λ (z : Node). Passes reach k z.disk.inc z.live) (some_is is) own)
      by j n false off_k is = off.1 j n (λ same. never (ap (λ z. z == k) same ∙ same_number k) off_k) is

  before : (home : Homes) (reach : Reach) → IsHome given home → PassesOff k reach M → Passes reach k d.inc live →
      AreLivedOff k home reach M × ((t : Parts) → live ≡ Some t → HasServers home reach t)
  before home reach h off own =
      let f = l.lived home reach h (all_pass reach off own) in (
        record { sent = f.sent; nodes = λ j n other is t up. f.nodes j n (elsewhere j other ∙ is) t up },
        λ t up. f.nodes k its_node here t up,
      )

  -- what passes once the node is down passed before
  was_up : (reach : Reach) (i : ℕ) (o : Option Parts) → Passes reach k i None → Passes reach k i o
  was_up reach i None p = p
  was_up reach i (Some t) p = down_passes reach k i t p

  stops : (e : ℕ) → LivesWith given (halted e k d M)
  stops e = quietly (all_lived k given d.inc d None M refl own_given.first l.apart own_given.low (λ t o up. absurd (none_is up)) off_given
      (λ home reach h off own. ((before home reach h off (was_up reach d.inc live own)).0, λ t up. absurd (none_is up))))
    where
      quietly : {N : Seen} → LivesWith given N → LivesWith given (said e (body.Halted k ∷ []) N)
      quietly w = record {
        apart = w.apart;
        places = w.places;
        lived = λ home reach h pass. let f = w.lived home reach h (record { zero = pass.zero; nodes = pass.nodes }) in
            record { sent = f.sent; nodes = f.nodes };
      }

-- ---- a node that goes on

-- the server of the binding that naming makes, if the message asks for one
abbrev server_at : ℕ → Disk → Option Named → ℕ
server_at x d None = 0
server_at x d (Some o) = next_server o.turn (listed_entry x d.names).servers

abbrev server_for : Disk → Naming → Option (Head × Ask) → ℕ
server_for d o (Some (h, ask.Bind x include avoid)) = server_at x d (at_number x o.objects)
server_for d o _ = 0

module _ (e k : ℕ) (d : Disk) (t : Parts) (M : Seen) (good : IsGood (up k d t M)) (given : Gifts) (l : LivesWith given (up k d t M)) where
  its_given : HasGiven given k (record { number = k; disk = d; live = Some t })
  its_given = own_given k d (Some t) M given l

  its_numbers : (o : Naming) → t.naming ≡ Some o → IsNumberedSo k d.inc given o
  its_numbers o is = its_given.naming t o refl is

  known : (home : Homes) (reach : Reach) → IsHome given home → PassesOff k reach M → Passes reach k d.inc (Some t) →
      AreLivedOff k home reach M × HasServers home reach t
  known home reach h off own = let f = before k d (Some t) M given l home reach h off own in (f.0, f.1 t refl)

  -- with another coordinator
  known_with : (c : Coord) (home : Homes) (reach : Reach) → IsHome given home → PassesOff k reach M →
      Passes reach k d.inc (Some (with_coord t c)) → AreLivedOff k home reach M × HasServers home reach t
  known_with c home reach h off own = known home reach h off (record { past = own.past; here = own.here })

  -- what passes once the server has gone on passed before
  went_on : (v : Parts) → ServerGoes t.server v.server → (reach : Reach) → Passes reach k d.inc (Some v) → Passes reach k d.inc (Some t)
  went_on v goes reach own =
      record { past = own.past; here = λ x n c at low. let q = copy_on t.server v.server goes x n c at low in own.here x n q.0 q.1 q.2 }

  true_of : (r : Did Coord) → GoesOn t.coord r.part × AreTrue r.part r.outs → AreOfInc k d.inc r.outs
  true_of r w = (true_inc k d.inc r.part r.outs w.1).1

  act_lives : (hd : Header) (i : Input) → is_act i ≡ true → refusal_up hd i t.coord ≡ None →
      DidKeeps (LivesWith given) e k d t (acts i d.intents t.coord) M
  act_lives hd i is none =
      let r = acts i d.intents t.coord in
      let w = well_acts good.0 (paths_of good.0) (one_tree e k d t M good) d.intents t.coord (good_coord e k d t M good)
      (let u = it e k d t M good in let f = u.faithful in f.works) hd i none other in
      lived_walk k given e d.inc (with_coord t r.part) its_given.first l.apart its_given.low its_numbers M.sent r.outs d M refl
      (true_of r w) (off_given k d (Some t) M given l) (λ z there. there)
      (λ home reach h off own. let f = known_with r.part home reach h off own in let q = know_acts home reach h.nobody off.0 i d.intents
      t.coord f.1.0 in (f.0, (q.0, f.1.1), coord_sent k home reach M.sent r.part r.outs w.1 q.1))
    where
      other : (l : Label) (how : Kind) (parent : Option Label) → i ≢ input.Begin l how parent
      other l how parent same = let no_way : false ≡ true = sym (ap is_act same) ∙ is in cc

  begin_lives : (label : Label) (how : Kind) (parent : Option Label) (g : Labelled) →
      DidKeeps (LivesWith given) e k d t (begin_action label how parent (parent_of parent t.coord) t.coord) (seen.given label g M)
  begin_lives label how parent g =
      let r = begin_action label how parent (parent_of parent t.coord) t.coord in
      lived_walk k given e d.inc (with_coord t r.part) its_given.first l.apart its_given.low its_numbers M.sent r.outs d
      (seen.given label g M) refl (tt, tt) (off_given k d (Some t) M given l) (λ z there. there)
      (λ home reach h off own. let f = known_with r.part home reach h off own in
      let q = know_acts home reach h.nobody off.0 (input.Begin label how parent) d.intents t.coord f.1.0 in
      (record { sent = (let a = f.0 in a.sent); nodes = (let a = f.0 in a.nodes) }, (q.0, f.1.1), (tt, tt)))

  tick_lives : Walks (LivesWith given) e k (tick_outs (record { number = k; disk = d; live = Some t }) t)
      (Up (LivesWith given) k (with_coord t (again_all t.coord.doings t.coord).part)) d M
  tick_lives =
      let r = again_all t.coord.doings t.coord in
      let w = well_again good.0 (paths_of good.0) (one_tree e k d t M good) t.coord (good_coord e k d t M good) in
      let tolds = tolds_again t.coord.telling in
      let truly : AreTrue r.part tolds = true_on t.coord r.part w.0 tolds
      (true_records t.coord (let u = it e k d t M good in u.faithful)) in
      lived_walk k given e d.inc (with_coord t r.part) its_given.first l.apart its_given.low its_numbers M.sent
      (tick_outs (record { number = k; disk = d; live = Some t }) t) d M refl
      (all_both (IsOfInc k d.inc) (r.outs ++ tolds) (map query_about (holders d t)) (all_both (IsOfInc k d.inc) r.outs tolds (true_of r w)
      (true_inc k d.inc r.part tolds truly).1) (all_map (IsOfInc k d.inc) query_about (holders d t) (λ u. tt)))
      (off_given k d (Some t) M given l) (λ z there. there)
      (λ home reach h off own.
      let f = known_with r.part home reach h off own in
      let q = know_again home reach h.nobody off.0 t.coord f.1.0 in (
        f.0,
        (q.0, f.1.1),
        sent_both k home reach M.sent (r.outs ++ tolds) (map query_about (holders d t))
            (sent_both k home reach M.sent r.outs tolds (coord_sent k home reach M.sent r.part r.outs w.1 q.1) (quiet_sent k home reach
            M.sent r.part tolds truly (quiet_again t.coord.telling))) (asks_sent k home reach M.sent (holders d t)),
      ))

  -- ---- messages

  module _ (paths : Paths) (calls : KnowsCalls paths M.sent t.coord) (some_node : k ≡ 0 →
      ⊥) (fits : CountFits t) (from : ℕ) (m : Message) (there : In (record { from = from; to = k; message = m }) M.sent)
      (meant : is_meant t m ≡ true) (v : Parts) (outs : List Effect) (is : handle k d t from m ≡ Took v outs) where
    truly : IsTrulyHandled k t (Took v outs)
    truly = subst (IsTrulyHandled k t) is (truly_handled k t good.0 (paths_of good.0) (one_tree e k d t M good) (good_coord e k d t M good)
        d (own_of_disk e k d t M good) from m (tops_of_disk e k d t M good))

    incs : AreOfInc k d.inc outs
    incs = subst (λ i. AreOfInc k i outs) (let u = it e k d t M good in u.server) truly.3

    grew : GrowsBy k d t from (Took v outs)
    grew = subst (GrowsBy k d t from) is (message_grows k d t from m)

    grows : (p : Naming) → v.naming ≡ Some p → (o : Naming) × (t.naming ≡ Some o) × Grows o p
    grows p vp = let g = grew.1 p vp in (g.0, g.1, g.2)

    -- a call that waits for the answer asked what it answers: an action's request of one number is one request
    its_call : (home : Homes) (reach : Reach) → NamesPost home reach M.sent (record { from = from; to = k; message = m }) →
        (a : Asked) (r : Reply) → answers m ≡ Some (a, r) → FitsCall home reach from a r t.coord
    its_call home reach its a r at q s found now waits = (
      subst (λ z. NamesReply home reach from z r) step.same
          (bare_so (let z = its.answering a r at in z.ask) r (let z = its.answering a r at in z.so)),
      of_object r refl,
    )
      where
        node : t.coord.tree.node ≡ k
        node = let u = it e k d t M good in u.node

        act : actor (let z = its.answering a r at in let h = z.head in h.path) ≡ a.act
        act = ap (λ (z : Asked). z.act) (let z = its.answering a r at in z.same)

        counted : IsCounted t.coord (let z = its.answering a r at in let w = z.post in w.to) (let z = its.answering a r at in
            z.head) (let z = its.answering a r at in z.ask)
        counted = let z = its.answering a r at in calls.counted z.post z.head z.ask z.posted (z.from ∙ sym node) z.asked
            (ap (λ u. is_own u t.coord.tree) act ∙ (doing_by a.act t.coord q found).0)

        same : q ≡ (let z = counted in z.doing)
        same = some_is (sym found ∙ ap (λ u. doing_of u t.coord) (sym act) ∙ counted.found)

        numbered : s.req ≡ q.req
        numbered = subst (IsNumbered q.req) now (let u = it e k d t M good in u.numbered a.act q found)

        number : (let z = its.answering a r at in let h = z.head in h.req) ≡ (let z = counted in let w = z.doing in w.req)
        number = ap (λ (z : Asked). z.req) (let z = its.answering a r at in z.same) ∙ sym (eqb-true s.req a.req (and_parts (s.req == a.req)
            ((reply_kind r == ask_kind (next_ask [] s)) && (next_node s == from)) waits).0) ∙ numbered ∙ ap (λ (z : Doing). z.req) same

        step : IsOfStep s (let z = its.answering a r at in let w = z.post in w.to) (let z = its.answering a r at in
            z.head) (let z = its.answering a r at in z.ask)
        step = counted.last s (ap (λ (z : Doing). z.now) (sym same) ∙ now) number

        bare_so : (z : Ask) (r : Reply) → NamesReply home reach from z r → NamesReply home reach from (bare z) r
        bare_so (ask.Bind x i avoid) r so = so
        bare_so (ask.Load x) r so = so
        bare_so (ask.Activate b st) r so = so
        bare_so (ask.Record x b i g) r so = so
        bare_so (ask.Invoke x b i ends op) r so = so
        bare_so (ask.Vote i ties ends) r so = so
        bare_so (ask.Prepare states) r so = so
        bare_so (ask.Confirm grants ex inc) r so = so

        answer_meant : reply_is_meant t.coord a r ≡ true
        answer_meant = sym (ap (answer_is_meant t.coord) at)
            ∙ (and_parts (asked_is_meant t.server (asks m)) (answer_is_meant t.coord (answers m)) meant).1

        loaded_here : (st : ObjectState) → reply_is_meant t.coord a (Reply.Loaded (loaded.State st)) ≡ true → st.uid.num ≡ s.x
        loaded_here st meant_so =
            ap (λ (u : Uid). u.num) (uid_is st.uid (object s.x) (sym (ap (is_loaded_for st) found ∙ ap (is_loaded_in st) now) ∙ meant_so))

        of_object : (z : Reply) → r ≡ z → IsOfObject s.x z
        of_object (Reply.Loaded (loaded.State st)) same_r = loaded_here st (ap (reply_is_meant t.coord a) (sym same_r) ∙ answer_meant)
        of_object (Reply.Loaded (loaded.InDoubt h)) same_r = tt
        of_object (Reply.Bound z) same_r = tt
        of_object (Reply.Activated z) same_r = tt
        of_object (Reply.Noted z) same_r = tt
        of_object (Reply.Invoked z) same_r = tt
        of_object (Reply.Voted z) same_r = tt
        of_object (Reply.Prepared z) same_r = tt
        of_object (Reply.Confirmed z) same_r = tt

    handled : (home : Homes) (reach : Reach) (nobody : home 0 ≡ 0) (early : IsPastZero reach) (mine : HasServers home reach t)
        (its : NamesPost home reach M.sent (record { from = from; to = k; message = m })) → Binds k home reach M.sent nobody early some_node
        d t from mine m there its v → Passes reach k t.server.inc (Some v) → HasServers home reach v × AllSent k home reach M.sent outs
    handled home reach nobody early mine its =
        subst by is (message_lived k home reach M.sent nobody early some_node d t from mine m there its (its_call home reach its)
        (λ a r at. (well_heard good.0 (paths_of good.0) (one_tree e k d t M good) from a r d.intents t.coord (good_coord e k d t M good)).1)
        (λ w. (well_acked good.0 (paths_of good.0) (one_tree e k d t M good) from w d.intents t.coord).1)
        (λ w. true_query good.0 (paths_of good.0) (one_tree e k d t M good) from w d.intents t.coord (tops_of_disk e k d t M good)
        (own_of_disk e k d t M good) (good_coord e k d t M good)))
      where
        by : Handled → Type 0
        by = By k home reach M.sent nobody early some_node d t from mine m there its

    -- with a list of what was given that goes on from the one before
    with_given : (more : Gifts) → AreApart more → (k ≡ 1 → AreBelow ((d.inc + 1) * 4294967296) more) → ((o : Naming) → v.naming ≡ Some o →
        IsNumberedSo k d.inc more o) → AreGivenOff k more M → ((home : Homes) → IsHome more home → IsHome given home)
        → ((home : Homes) → IsHome more home → (o p : Naming) → t.naming ≡ Some o → v.naming ≡ Some p → p.count ≡ o.count + 1 →
        (h : Head) (x : ℕ) (include : Bool) (avoid : _) → asks m ≡ Some (h, ask.Bind x include avoid) → (named : Named) →
        at_number x o.objects ≡ Some named →
        home (binding_number (record { inc = o.inc; count = o.count + 1 })) ≡ next_server named.turn (listed_entry x d.names).servers)
        → Walks LivesRun e k outs (Up LivesRun k v) d M
    with_given more apart low numbers off less binds =
        walks_to (LivesWith more) LivesRun e k outs (Up (LivesWith more) k v) (Up LivesRun k v) d M (λ N w. (more, w)) (λ c N w. (more, w))
        (lived_walk k more e d.inc v its_given.first apart low numbers M.sent outs d M refl incs off (λ z at. at)
        (λ home reach h others own. let f = known home reach (less home h) others (went_on v grew.0 reach own) in
        let q = handled home reach h.nobody others.0 f.1 ((let a = f.0 in a.sent) (record { from = from; to = k; message = m }) there)
        (binds home h) (subst (λ z. Passes reach k z (Some v)) (sym (let u = it e k d t M good in u.server)) own) in (f.0, q.0, q.1)))

    apart_is : (n : ℕ) → n ≡ n + 1 → ⊥
    apart_is n same = omega (arith, same)

    same_given : ((o p : Naming) → t.naming ≡ Some o → v.naming ≡ Some p → p.count ≡ o.count + 1 → ⊥) →
        ((p : Naming) → v.naming ≡ Some p → IsNumberedSo k d.inc given p) → Walks LivesRun e k outs (Up LivesRun k v) d M
    same_given never_more numbers = with_given given l.apart its_given.low numbers (off_given k d (Some t) M given l) (λ home h. h)
        (λ home h o p at vp made. absurd (never_more o p at vp made))

    new_given : (o p : Naming) → t.naming ≡ Some o → v.naming ≡ Some p → p.inc ≡ o.inc → p.count ≡ o.count + 1 →
        Walks LivesRun e k outs (Up LivesRun k v) d M
    new_given o p at vp inc more =
        with_given ((number, server_for d o (asks m)) ∷ given) (above (o.inc * 4294967296) o.count, its_own.2, l.apart) (λ one. (
          subst (λ z. z * 4294967296 + (o.count + 1) < (d.inc + 1) * 4294967296) (sym its_own.1) (fit_in d.inc (o.count + 1) (fits o at)),
          its_given.low one,
        ))
        (λ q vq. subst (IsNumberedSo k d.inc ((number, server_for d o (asks m)) ∷ given)) (some_is (sym vp ∙ vq))
        (its_own.0, inc ∙ its_own.1, (numbered, below_more number next (least number next numbered) given its_own.2)))
        (λ j n other is_j. let f = off_given k d (Some t) M given l j n other is_j in record {
          first = f.first;
          low = λ one. absurd (other (one ∙ sym its_own.0));
          naming = λ s q up its. absurd (other ((f.naming s q up its).0 ∙ sym its_own.0));
        })
        (λ home h. record { nobody = h.nobody; agrees = (h.agrees).1 })
        binds
      where
        number : ℕ
        number = o.inc * 4294967296 + (o.count + 1)

        next : ℕ
        next = p.inc * 4294967296 + (p.count + 1)

        its_own : IsNumberedSo k d.inc given o
        its_own = its_numbers o at

        above : (a c : ℕ) → 0 < a + (c + 1)
        above a c = omega arith

        fit_in : (i c : ℕ) → c < 4294967296 → i * 4294967296 + c < (i + 1) * 4294967296
        fit_in i c fit = omega (arith, fit)

        up_one : (a b c g : ℕ) → a ≡ b → c ≡ g + 1 → b + (g + 1) < a + (c + 1)
        up_one a b c g x y = omega (arith, x, y)

        numbered : o.inc * 4294967296 + (o.count + 1) < p.inc * 4294967296 + (p.count + 1)
        numbered = up_one (p.inc * 4294967296) (o.inc * 4294967296) p.count o.count (ap (λ z. z * 4294967296) inc) more

        least : (a b : ℕ) → a < b → a ≤ b
        least a b x = omega (arith, x)

        binds : (home : Homes) → IsHome ((number, server_for d o (asks m)) ∷ given) home → (a b : Naming) → t.naming ≡ Some a →
            v.naming ≡ Some b → b.count ≡ a.count + 1 → (h : Head) (x : ℕ) (include : Bool) (avoid : _) →
            asks m ≡ Some (h, ask.Bind x include avoid) → (named : Named) → at_number x a.objects ≡ Some named →
            home (binding_number (record { inc = a.inc; count = a.count + 1 })) ≡ next_server named.turn (listed_entry x d.names).servers
        binds home h a b at_a vb made hd x include avoid asked named found =
            let same : o ≡ a = some_is (sym at ∙ at_a) in
            subst (λ (z : Naming). home (binding_number (record { inc = z.inc; count = z.count + 1 }))
            ≡ next_server named.turn (listed_entry x d.names).servers) same
            ((h.agrees).0 ∙ ap (server_for d o) asked ∙ ap (server_at x d) (ap (λ (z : Naming). at_number x z.objects) same ∙ found))

    message_lives : Walks LivesRun e k outs (Up LivesRun k v) d M
    message_lives = by v.naming refl
      where
        by : (q : Option Naming) → v.naming ≡ q → Walks LivesRun e k outs (Up LivesRun k v) d M
        by None none = same_given (λ o p at vp made. absurd (none_is (sym none ∙ vp))) (λ p vp. absurd (none_is (sym none ∙ vp)))
        by (Some p) vp = one (grows p vp)
          where
            one : (o : Naming) × (t.naming ≡ Some o) × Grows o p → Walks LivesRun e k outs (Up LivesRun k v) d M
            one (o, at, (inc, inr more)) = new_given o p at vp inc more
            one (o, at, (inc, inl same)) = same_given
                (λ a b at_a vb made. apart_is o.count (sym same ∙ ap (λ (z : Naming). z.count) (some_is (sym vp ∙ vb)) ∙ made
                ∙ ap (λ (z : Naming). z.count + 1) (some_is (sym at_a ∙ at))))
                (λ q vq. subst (IsNumberedSo k d.inc given) (some_is (sym vp ∙ vq)) (let n = its_numbers o at in
                (n.0, inc ∙ n.1, subst (λ z. AreBelow z given) (λ i. sym inc i * 4294967296 + (sym same i + 1)) n.2)))

-- ---- restarts

module _ (hd : Header) (e k : ℕ) (d : Disk) (M : Seen) (given : Gifts) (l : LivesWith given (down k d M)) where
  abbrev v : Parts
  v = parts_in k (d.inc + 1) d

  abbrev raised : Disk
  raised = record d { inc = d.inc + 1 }

  own : HasGiven given k (record { number = k; disk = d; live = None })
  own = own_given k d None M given l

  low_up : k ≡ 1 → AreBelow ((d.inc + 1 + 1) * 4294967296) given
  low_up one = below_more ((d.inc + 1) * 4294967296) ((d.inc + 1 + 1) * 4294967296) (rises (d.inc + 1)) given (own.low one)
    where
      rises : (n : ℕ) → n * 4294967296 ≤ (n + 1) * 4294967296
      rises n = omega arith

  numbers_new : (o : Naming) → naming_at k (d.inc + 1) d.names ≡ Some o → IsNumberedSo k (d.inc + 1) given o
  numbers_new o = by (k == 1) refl
    where
      higher : (a : ℕ) → a ≤ a + (0 + 1)
      higher a = omega arith

      by : (b : Bool) → (k == 1) ≡ b → cond b (Some (recovered_naming (d.inc + 1) d.names)) None ≡ Some o →
          IsNumberedSo k (d.inc + 1) given o
      by true at_one is = subst (IsNumberedSo k (d.inc + 1) given) (some_is is) (
        eqb-true k 1 at_one,
        refl,
        below_more ((d.inc + 1) * 4294967296) ((d.inc + 1) * 4294967296 + (0 + 1)) (higher ((d.inc + 1) * 4294967296)) given
            (own.low (eqb-true k 1 at_one)),
      )
      by false off is = absurd (none_is is)

  more_than_none : (n : ℕ) → 0 < n + 1
  more_than_none n = omega arith

  -- what passes in the next incarnation passed before
  was_down : (reach : Reach) (o : Option Parts) → Passes reach k (d.inc + 1) o → Passes reach k d.inc None
  was_down reach o own = record { past = λ x n h less. own.past x n h (above h d.inc less); here = λ x n. own.past x n d.inc (next d.inc) }
    where
      above : (a b : ℕ) → a < b → a < b + 1
      above a b less = omega (arith, less)

      next : (a : ℕ) → a < a + 1
      next a = omega arith

  new_servers : (home : Homes) (reach : Reach) → home 0 ≡ 0 → IsPastZero reach → HasServers home reach (parts_in k (d.inc + 1) d)
  new_servers home reach nobody early = (know_new home reach nobody early k (d.inc + 1) d.intents, λ o. by (k == 1) o)
    where
      by : (b : Bool) (o : Naming) → cond b (Some (recovered_naming (d.inc + 1) d.names)) None ≡ Some o → IsNamingSo home reach o
      by true o is = subst (IsNamingSo home reach) (some_is is) (recovered_so home reach (d.inc + 1) d.names)
      by false o is = absurd (none_is is)

  sent_new : (home : Homes) (reach : Reach) → AllSent k home reach M.sent (rest (rest (restart_outs hd k (d.inc + 1) d)))
  sent_new home reach = sent_both k home reach M.sent four hellos (sent_both k home reach M.sent three queries
      (sent_both k home reach M.sent two tolds (sent_both k home reach M.sent one records (tt, (tt, back (naming_at k (d.inc + 1) d.names)))
      (tt, all_map (NamesSent k home reach M.sent) (λ (e : Uid × Intent). Say (body.Recovered k e.0)) d.intents (λ e. tt)))
      (all_flat (NamesSent k home reach M.sent) (λ (e : Uid × Intent). tell_all e.1.root true ((e.0, ending.Commit) ∷ []) e.1.nodes)
      d.intents (λ e. all_map (NamesSent k home reach M.sent) (tell e.1.root true ((e.0, ending.Commit) ∷ [])) e.1.nodes
      (λ n. record { asking = tt; answering = λ a r is. absurd (none_is is) })))) (asks_sent k home reach M.sent
      (uid_set (prepared_actions d.store ++ prepared_actions d.names)))) (all_map (NamesSent k home reach M.sent) (hello_to k (d.inc + 1))
      (without_number k (numbers_to hd.nodes)) (λ w. record { asking = tt; answering = λ a r is. absurd (none_is is) }))
    where
      back : (o : Option Naming) → AllSent k home reach M.sent (naming_back o)
      back None = tt
      back (Some o) = all_flat (NamesSent k home reach M.sent) (λ (e : ℕ × Named). back_lines e.1) o.objects
          (λ e. all_map (NamesSent k home reach M.sent) _ e.1.rows (λ r. tt))

      one : List Effect
      one = Say (body.Up k (d.inc + 1)) ∷ Do Look ∷ naming_back (naming_at k (d.inc + 1) d.names)

      records : List Effect
      records = Do Look ∷ recovered_records k d.intents

      two : List Effect
      two = one ++ records

      tolds : List Effect
      tolds = tolds_again d.intents

      three : List Effect
      three = two ++ tolds

      queries : List Effect
      queries = map query_about (uid_set (prepared_actions d.store ++ prepared_actions d.names))

      four : List Effect
      four = three ++ queries

      hellos : List Effect
      hellos = map (hello_to k (d.inc + 1)) (without_number k (numbers_to hd.nodes))

  restart_lives : Walks (LivesWith given) e k (restart_outs hd k (d.inc + 1) d) (Up (LivesWith given) k (parts_in k (d.inc + 1) d)) d M
  restart_lives = (
    looks,
    (
      raises,
      lived_walk k given e (d.inc + 1) v (more_than_none d.inc) l.apart low_up numbers_new M.sent (rest
          (rest (restart_outs hd k (d.inc + 1) d))) raised M refl (restart_of hd k d).1.1 (off_given k d None M given l) (λ z there. there)
          (λ home reach h off own. (
            (before k d None M given l home reach h off (was_down reach (Some v) own)).0,
            new_servers home reach h.nobody off.0,
            sent_new home reach,
          )),
    ),
  )
    where
      looks : (how : Stop) → LivesWith given (halted e k (stopped how Look d) M)
      looks Before = stops k d None M given l e
      looks After = stops k d None M given l e
      looks (InPart which) = stops k d None M given l e

      quietly : {N : Seen} → LivesWith given N → LivesWith given (said e (body.Halted k ∷ []) N)
      quietly w = record {
        apart = w.apart;
        places = w.places;
        lived = λ home reach h pass. let f = w.lived home reach h (record { zero = pass.zero; nodes = pass.nodes }) in
            record { sent = f.sent; nodes = f.nodes };
      }

      raises : (how : Stop) → LivesWith given (halted e k (stopped how (PutInc (d.inc + 1)) d) M)
      raises Before = stops k d None M given l e
      raises After = quietly (all_lived k given (d.inc + 1) raised None M refl (more_than_none d.inc) l.apart low_up
          (λ t o up. absurd (none_is up)) (off_given k d None M given l)
          (λ home reach h off own. ((before k d None M given l home reach h off (was_down reach None own)).0, λ t up. absurd (none_is up))))
      raises (InPart which) = stops k d None M given l e

-- ---- at first

first_lives : (hd : Header) → IsAtStarts hd (LivesWith [])
first_lives hd st formed = record {
  apart = tt;
  places = λ j n is. subst (HasGiven [] j) (first_at hd st j n is) (record {
    first = raised (st.incs j);
    low = λ one. tt;
    naming = λ t o up its. numbers j o (ap (λ (z : Parts). z.naming) (live_first hd st j t up) ∙ its);
  });
  lived = λ home reach h pass. record {
    sent = λ p there. absurd there;
    nodes = λ j n is t up. subst (HasServers home reach) (first_up hd st j n t is up) (servers home reach h.nobody pass.zero j);
  };
}
  where
    raised : (n : ℕ) → 0 < n + 1
    raised n = omega arith

    numbers : (j : ℕ) (o : Naming) → naming_at j (st.incs j + 1) (let d = disk_by hd st j in d.names) ≡ Some o →
        (j ≡ 1) × (o.inc ≡ st.incs j + 1) × AreBelow (binding_number (record { inc = o.inc; count = o.count + 1 })) []
    numbers j o = by (j == 1) refl
      where
        by : (b : Bool) → (j == 1) ≡ b →
            cond b (Some (recovered_naming (st.incs j + 1) (let d = disk_by hd st j in d.names))) None ≡ Some o →
            (j ≡ 1) × (o.inc ≡ st.incs j + 1) × AreBelow (binding_number (record { inc = o.inc; count = o.count + 1 })) []
        by true at_one is = (eqb-true j 1 at_one, ap (λ (z : Naming). z.inc) (sym (some_is is)), tt)
        by false off is = absurd (none_is is)

    servers : (home : Homes) (reach : Reach) → home 0 ≡ 0 → IsPastZero reach → (j : ℕ) →
        HasServers home reach (parts_in j (st.incs j + 1) (disk_by hd st j))
    servers home reach nobody early j = (know_new home reach nobody early j (st.incs j + 1) [], λ o. by (j == 1) o)
      where
        by : (b : Bool) (o : Naming) → cond b (Some (recovered_naming (st.incs j + 1) (let d = disk_by hd st j in d.names))) None ≡ Some o →
            IsNamingSo home reach o
        by true o is =
            subst (IsNamingSo home reach) (some_is is) (recovered_so home reach (st.incs j + 1) (let d = disk_by hd st j in d.names))
        by false o is = absurd (none_is is)

-- ---- all runs

-- where nodes are good, calls are known and naming's count fits
module _ (hd : Header) (G : Seen → Type 0) (good : (M : Seen) → G M → IsGood M) (knows : (M : Seen) → G M →
    KnowsRun M) (fits : (k : ℕ) (d : Disk) (t : Parts) (M : Seen) → G (up k d t M) → CountFits t) where
  some : (given : Gifts) (e k : ℕ) (outs : List Effect) (v : Parts) (d : Disk) (M : Seen) →
      Walks (LivesWith given) e k outs (Up (LivesWith given) k v) d M → Walks LivesRun e k outs (Up LivesRun k v) d M
  some given e k outs v d M w = walks_to (LivesWith given) LivesRun e k outs (Up (LivesWith given) k v) (Up LivesRun k v) d M
      (λ N x. (given, x)) (λ c N x. (given, x)) w

  its_message : (e k : ℕ) (d : Disk) (t v : Parts) (from : ℕ) (m : Message) (outs : List Effect) (M : Seen) → G (up k d t M) →
      LivesRun (up k d t M) → In (record { from = from; to = k; message = m }) M.sent → is_meant t m ≡ true →
      handle k d t from m ≡ Took v outs → Walks LivesRun e k outs (Up LivesRun k v) d M
  its_message e k d t v from m outs M g p there meant is =
      let r = knows (up k d t M) g in
      let w = r.1 in
      let tree : Trees r.0 = (paths_of r.0, begun_tree r.0 w.begun, path_found r.0 w.begun) in
      let known = r.2 tree in
      let own = own_of r.0 tree.0 k d (Some t) M known in
      let around = around_of r.0 tree.0 k d (Some t) M known in
      message_lives e k d t M (good (up k d t M) g) p.0 p.1 tree.0 (own.coord t refl)
      (λ zero_is. never (ap (λ z. z == k) (sym zero_is) ∙ same_number k) around.apart) (fits k d t M g) from m there meant v outs is

  pub lives_given : KeepsGiven hd G LivesRun
  lives_given = record {
    quiet = λ e bs M quiet g p. let w = p.1 in (
      p.0,
      record {
        apart = w.apart;
        places = w.places;
        lived = λ home reach h pass. let f = w.lived home reach h (record { zero = pass.zero; nodes = pass.nodes }) in
            record { sent = f.sent; nodes = f.nodes };
      },
    );
    stop = λ e k d live M g p. (p.0, stops k d live M p.0 p.1 e);
    message = its_message;
    act = λ e k d t i M is none g p. let did = acts i d.intents t.coord in
        some p.0 e k did.outs (with_coord t did.part) d M (act_lives e k d t M (good (up k d t M) g) p.0 p.1 hd i is none);
    begin = λ e k d t l how parent M new may none g p.
        let did = begin_action l how parent (parent_of parent t.coord) t.coord in
        some p.0 e k did.outs (with_coord t did.part) d (seen.given l (record { node = k; serial = is_serial how }) M)
        (begin_lives e k d t M (good (up k d t M) g) p.0 p.1 l how parent (record { node = k; serial = is_serial how }));
    tick = λ e k d t M g p. some p.0 e k (tick_outs (record { number = k; disk = d; live = Some t }) t)
        (with_coord t (again_all t.coord.doings t.coord).part) d M (tick_lives e k d t M (good (up k d t M) g) p.0 p.1);
    restart =
        λ e k d M g p. some p.0 e k (restart_outs hd k (d.inc + 1) d) (parts_in k (d.inc + 1) d) d M (restart_lives hd e k d M p.0 p.1);
    first = λ st formed. ([], first_lives hd st formed);
  }
