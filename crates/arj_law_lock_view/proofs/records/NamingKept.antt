-- What is known of naming is kept by all handlers, beside what coordinators know and what naming keeps of objects.
use Rattle.arj_law_parts.proofs.Words
use Words.{◌≡◌, ◌≢◌, ◌∙◌, ◌≤◌, ◌<◌, ◌+◌, ◌*◌, ◌==◌, ℕ, Bool, true, false, cond, List, [], ◌∷◌, ◌++◌, map, refl, sym, ap, subst, arith}
use Words.{eqb-true, Option, Some, None, ⊤, Binding, Head, Header, Kind, Label, Message, Uid, asks, again_all, begin_action, heard}
use Words.{back_lines, Before, Disk, Do, Effect, Intent, Look, PutInc, Say, Stop, Work, stopped, acked, answer_query, tell, tell_all}
use Words.{tick_outs, Named, Naming, Handled, Parts, Took, handle, holders, prepared_actions, query_about, with_coord, binding_number}
use Words.{uid_set, without_number, Input, Node, acts as acts_of, hello_to, naming_at, naming_back, numbers_to, parent_of, parts_in}
use Words.{recovered_records, refusal_up, restart_outs, tolds_again, Labelled, acked_own, acts_own, again_own}
use Words.{heard_own, query_own, tolds_again_own, Post, Seen, is_serial}
use Words.ask
use Words.body
use Words.ending
use Words.input
use Rattle.arj_law_lock_view.proofs.Terms
use Terms.{IsAtStarts, Action, AreBegun, paths_of, begun_tree, path_found, all_flat, all_map, true_query, true_records, well_acked}
use Terms.{well_acts}
use Terms.{well_again, well_heard, IsGoodCoord, IsTree, IsUp, own_of_disk, tops_of_disk, first_at, same_number, is_act, at, down, given, up}
use Terms.{Up, Walks, halted, walks_both, AreSaid, HasGiven, KnowsFew, KeepsGiven, some_is, AreAnswered, AreConfirmed, AreFitting, IsRecord}
use Terms.{AnswersClaim, EntriesConfirmed, NamingHolds, NamingKnows, RecordsSettle, Below, Passes, PassesBefore, PassesNaming, PassesNode}
use Terms.{Tests}
use Rattle.arj_law_lock_view.proofs.facts.{GoodNaming.held_objects, UpperWalks.IsHeld}
use Rattle.arj_law_lock_view.proofs.records.Ends.{confirm_so, hello_grows, recovered_below, told_grows}
use Rattle.arj_law_lock_view.proofs.records.Exact.{exact, exact_down, exact_low, exact_made, exact_passes, exact_zero}
use Rattle.arj_law_lock_view.proofs.records.NamingRuns.{AreHere, answer_walk, entries_back, entries_here, entry_walk, inc_stopped}
use Rattle.arj_law_lock_view.proofs.records.NamingRuns.{names_stopped}
use Rattle.arj_law_lock_view.proofs.records.NamingWalks.{AllClaim, Confirms, Left, NamingGoes, down_passes, handled_so, quiet_claims}
use Rattle.arj_law_lock_view.proofs.records.NamingWalks.{quiet_confirms, quiet_left, same_goes}
use Rattle.arj_law_lock_view.proofs.records.Namings.{bind_grows, none_not, note_grows, passes_grown}
use Rattle.arj_law_lock_view.proofs.records.Quiet.{AllQuiet, IncUp, IsQuiet, coord_quiet, queries, quiet_both, quiet_incs}
use Rattle.arj_law_parts.specs.moves.Seen.{In}
use Rattle.arj_law_runs.specs.calls.Bindings.{bindings_made}

-- ---- naming holds that recorded bindings aren't above the last one

pub held_below : IsHeld NamingHolds
held_below = record {
  more = λ a acts begun n its. (held_objects.more a acts begun n its.0, its.1);
  starts = λ acts begun inc d prepared. (held_objects.starts acts begun inc d prepared, recovered_below inc d);
  binds = λ acts begun p who x include avoid d n its. let w = held_objects.binds acts begun p who x include avoid d n its.0 in
      ((w.0, (bind_grows p x include avoid d n).1 its.1), w.1);
  notes = λ acts begun p who x b i g n its. let w = held_objects.notes acts begun p who x b i g n its.0 in
      ((w.0, (note_grows any_tests acts begun p who x b i g n its.0 its.1).1), w.1);
  confirms = λ acts begun p who grants ex inc d n its. let w = held_objects.confirms acts begun p who grants ex inc d n its.0 in
      let c = confirm_so p grants ex inc d n in ((w.0, c.below its.1), w.1);
  tells = λ acts begun u e d n its. let w = held_objects.tells acts begun u e d n its.0 in
      ((w.0, (told_grows acts u e d n its.0).1 its.1), w.1);
  hellos = λ acts begun node inc n its. (held_objects.hellos acts begun node inc n its.0, (hello_grows node inc n).1 its.1);
}
  where
    any_tests : Tests
    any_tests = record { made = λ v. true; past = λ x v. true; asked = λ x u i. true; low = λ i. true; listed = λ x v s. true }

-- ---- a node

before_less : (T : Tests) (i j : ℕ) → i ≤ j → PassesBefore T j → PassesBefore T i
before_less T i j le before = record {
  listed = λ x v s lt. before.listed x v s (up v i j lt le);
  made = λ v lt. before.made v (up v i j lt le);
  past = λ x v lt. before.past x v (up v i j lt le);
  asked = λ x u n lt. before.asked x u n (under n i j lt le);
}
  where
    up : (v a b : ℕ) → v < a * 4294967296 → a ≤ b → v < b * 4294967296
    up v a b lt l = omega (arith, lt, l)

    under : (n a b : ℕ) → n < a → a ≤ b → n < b
    under n a b lt l = omega (arith, lt, l)

start_passes : (T : Tests) (o w : Option Naming) → NamingGoes o w → ((n : Naming) → w ≡ Some n → PassesNaming T n) → (n : Naming) →
    o ≡ Some n → PassesNaming T n
start_passes T None w goes passes n at = none_not at
start_passes T (Some m) None goes passes n at = absurd goes
start_passes T (Some m) (Some p) goes passes n at = subst (PassesNaming T) (some_is at) (passes_grown T m p goes (passes p refl))

there_still : (o w : Option Naming) → NamingGoes o w → (n : Naming) → w ≡ Some n → (m : Naming) × (o ≡ Some m)
there_still None None goes n at = none_not at
there_still None (Some p) goes n at = absurd goes
there_still (Some m) w goes n at = (m, refl)

up_to : (a b c : ℕ) → a ≤ b → b ≤ c → a ≤ c
up_to a b c i j = omega (arith, i, j)

up_one : (a b : ℕ) → a ≤ b → a + 1 ≤ b + 1
up_one a b i = omega (arith, i)

next_up : (a b : ℕ) → a ≤ b → a ≤ b + 1
next_up a b i = omega (arith, i)

stands_at : (k : ℕ) (d : Disk) (live : Option Parts) (M : Seen) →
    (let S = at k d live M in S.nodes k) ≡ Some (record { number = k; disk = d; live = live })
stands_at k d live M = λ i. cond (same_number k i) (Some (record { number = k; disk = d; live = live })) (M.nodes k)

-- node 1 passes, seen with this node in another state
one_here : (T : Tests) (k : ℕ) (c d : Disk) (l v : Option Parts) (M : Seen) →
    ((k ≡ 1) → PassesNode T (record { number = k; disk = c; live = l }) → PassesNode T (record { number = k; disk = d; live = v })) →
    Passes T (at k c l M) → Passes T (at k d v M)
one_here T k c d l v M own passes = (passes.0, λ n is. by (1 == k) refl n is passes.1)
  where
    by : (b : Bool) → (1 == k) ≡ b → (n : Node) → cond b (Some (record { number = k; disk = d; live = v })) (M.nodes 1) ≡ Some n → ((m :
        Node) → cond (1 == k) (Some (record { number = k; disk = c; live = l })) (M.nodes 1) ≡ Some m → PassesNode T m) → PassesNode T n
    by true same n is its = subst (PassesNode T) (some_is is) (own (sym (eqb-true 1 k same)) (its
        (record { number = k; disk = c; live = l }) (λ i. cond (same i) (Some (record { number = k; disk = c; live = l })) (M.nodes 1))))
    by false apart n is its = its n ((λ i. cond (apart i) (Some (record { number = k; disk = c; live = l })) (M.nodes 1)) ∙ is)

own_passes : (T : Tests) (k : ℕ) (c : Disk) (l : Option Parts) (M : Seen) → k ≡ 1 → Passes T (at k c l M) →
    PassesNode T (record { number = k; disk = c; live = l })
own_passes T k c l M is passes = passes.1 (record { number = k; disk = c; live = l })
    (subst (λ j. (let S = at k c l M in S.nodes j) ≡ Some (record { number = k; disk = c; live = l })) is (stands_at k c l M))

module _ (e k : ℕ) (d : Disk) (t : Parts) (M : Seen) (settle : RecordsSettle (up k d t M)) (below : Below (up k d t M))
    (few : KnowsFew (up k d t M)) (counted : AreSaid (up k d t M)) (knows : NamingKnows (up k d t M)) where
  abbrev node : Node
  node = record { number = k; disk = d; live = Some t }

  abbrev acts : List Action
  acts = below.0

  begun : AreBegun below.0
  begun = let g = below.1 in g.begun

  its_given : HasGiven few.1.0.0 k (record { number = k; disk = d; live = Some t })
  its_given = let l = few.1.0.1 in l.places k (record { number = k; disk = d; live = Some t }) (stands_at k d (Some t) M)

  holds : (n : Naming) → t.naming ≡ Some n → NamingHolds below.0 n
  holds n is = let u = below.2 k (record { number = k; disk = d; live = Some t }) (stands_at k d (Some t) M) in u.live t n refl is

  here : (n : Naming) → t.naming ≡ Some n → k ≡ 1
  here n is = (its_given.naming t n refl is).0

  inc_is : (n : Naming) → t.naming ≡ Some n → n.inc ≡ d.inc
  inc_is n is = (its_given.naming t n refl is).1

  fits : (n : Naming) → t.naming ≡ Some n → n.count + 1 < 4294967296
  fits n is = less n.count (bindings_made M.lines)
      (counted k (record { number = k; disk = d; live = Some t }) (stands_at k d (Some t) M) t n refl is) few.0
    where
      less : (c b : ℕ) → c ≤ b → b < 4294967295 → c + 1 < 4294967296
      less c b le lt = omega (arith, le, lt)

  -- the exact tests fit
  module _ (n : Naming) (is : t.naming ≡ Some n) where
    passes_now : Passes (exact d.inc n) (up k d t M)
    passes_now = (
      exact_zero d.inc n,
      λ m at_m. subst (PassesNode (exact d.inc n)) (some_is (sym (stands_at k d (Some t) M)
          ∙ ap (λ j. (let S = up k d t M in S.nodes j)) (here n is) ∙ at_m)) (exact_passes k d t n is (inc_is n is)),
    )

    fitting : AreFitting (exact d.inc n) M.sent
    fitting = record { zero = exact_zero d.inc n; down = λ x v w. exact_down d.inc n x v w; answered = knows.0 (exact d.inc n) passes_now }

  avoids : (q : Post) (h : Head) (x : ℕ) (include : Bool) (avoid : Binding) → In q M.sent →
      asks q.message ≡ Some (h, ask.Bind x include avoid) → (n : Naming) → t.naming ≡ Some n →
      binding_number avoid ≤ binding_number (record { inc = n.inc; count = n.count })
  avoids q h x include avoid there asking n is = exact_made d.inc n (binding_number avoid)
      ((let s = settle.1.0 in s.claims (exact d.inc n) (fitting n is)).0 q h (ask.Bind x include avoid) there asking)

  lates : (n : Naming) → t.naming ≡ Some n → (top : Uid) (x : ℕ) (b : Binding) (g : ℕ) → IsRecord M.sent top x b g → g ≤ d.inc
  lates n is top x b g r = exact_low d.inc n g
      ((let s = settle.1.0 in s.claims (exact d.inc n) (fitting n is)).0 r.post r.head (ask.Record x b r.inc g) r.posted r.asking)

  -- whatever the node does
  left_walk : (v : Parts) (outs : List Effect) → Left M.sent k d t v outs → Walks NamingKnows e k outs (Up NamingKnows k v) d M
  left_walk v outs left = walks_both AnswersClaim EntriesConfirmed e k outs (Up AnswersClaim k v) (Up EntriesConfirmed k v) d M
      (answer_walk M.sent Ok e k v outs d M d.inc (λ T ok. ok.1) (λ p i. i) (λ T ok. ok.0) left.incs (omega arith) stops ends)
      (entry_walk M.sent e k v outs d M left.entries (λ first top x w. w) (entries_here k d (Some t) M knows.1))
    where
      Ok : Tests → Type 0
      Ok T = AreAnswered T M.sent × AllClaim M.sent k T outs

      stops : (c : Disk) → d.inc ≤ c.inc → (T : Tests) → Passes T (at k c None M) → Ok T
      stops c le T passes = (
        knows.0 T (one_here T k c d None (Some t) M (λ is p. record {
          low = λ i l. p.low i (up_to i d.inc c.inc l le);
          before = before_less T d.inc (c.inc + 1) (next_up d.inc c.inc le) p.live;
          live = λ n at_n. down_passes T below.0 n d.inc (inc_is n at_n) (fewer n.count (fits n at_n)) (holds n at_n).0
              (before_less T (d.inc + 1) (c.inc + 1) (up_one d.inc c.inc le) p.live);
          lists = p.lists;
        }) passes),
        left.down T (λ n at_n. (own_passes T k c None M (here n at_n) passes).low d.inc le)
            (λ n at_n. before_less T (d.inc + 1) (c.inc + 1) (up_one d.inc c.inc le) (own_passes T k c None M (here n at_n) passes).live),
      )
        where
          fewer : (a : ℕ) → a + 1 < 4294967296 → a < 4294967296
          fewer a lt = omega (arith, lt)

      ends : (c : Disk) → d.inc ≤ c.inc → (T : Tests) → Passes T (up k c v M) → Ok T
      ends c le T passes = (
        knows.0 T (one_here T k c d (Some v) (Some t) M (λ is p. record {
          low = λ i l. p.low i (up_to i d.inc c.inc l le);
          before = before_less T d.inc c.inc le p.before;
          live = start_passes T t.naming v.naming left.naming p.live;
          lists = p.lists;
        }) passes),
        left.up T (λ n at_n. (own_passes T k c (Some v) M (here n at_n) passes).low d.inc le)
            (λ n at_n. let m = there_still t.naming v.naming left.naming n at_n in (
              (own_passes T k c (Some v) M (here m.0 m.1) passes).live n at_n,
              λ idle x w s le on. (own_passes T k c (Some v) M (here m.0 m.1) passes).lists x w s,
            )),
      )

  -- ---- inputs

  tree : IsTree (paths_of below.0)
  tree = begun_tree below.0 begun

  its_up : IsUp below.0 M.sent M.labels k d.inc t
  its_up = let g = below.1 in let p = g.places k (record { number = k; disk = d; live = Some t }) (stands_at k d (Some t) M) in p.memory

  its_coord : IsGoodCoord below.0 (paths_of below.0) t.coord
  its_coord = let u = its_up in let g = u.good (paths_of below.0) tree (path_found below.0 begun) in g.coord

  pub message_left : (v : Parts) (from : ℕ) (m : Message) (outs : List Effect) → In (record { from = from; to = k; message = m }) M.sent →
      handle k d t from m ≡ Took v outs → Left M.sent k d t v outs
  message_left v from m outs there is = subst By is its
    where
      By : Handled → Type 0
      By (Took w es) = Left M.sent k d t w es
      By _ = ⊤

      its : By (handle k d t from m)
      its = handled_so below.0 begun M.sent k d t from m there (λ n at_n. (holds n at_n).0) (λ n at_n. (holds n at_n).1) inc_is fits
          (λ h x include avoid asking n at_n. avoids (record { from = from; to = k; message = m }) h x include avoid there asking n at_n)
          lates
          (λ h grants ex inc asking. let s = settle.1.0 in
          s.tops (record { from = from; to = k; message = m }) h grants ex inc there asking)
          (λ a r of. coord_quiet (heard from a r d.intents t.coord).part (heard from a r d.intents t.coord).outs
          (well_heard below.0 (paths_of below.0) tree from a r d.intents t.coord its_coord).1 (heard_own from a r d.intents t.coord))
          (λ u. coord_quiet (acked from u d.intents t.coord).part (acked from u d.intents t.coord).outs
          (well_acked below.0 (paths_of below.0) tree from u d.intents t.coord).1 (acked_own from u d.intents t.coord))
          (λ u. coord_quiet t.coord (answer_query from u d.intents t.coord) (true_query below.0 (paths_of below.0) tree from u d.intents
          t.coord (tops_of_disk e k d t M (below.0, below.1)) (own_of_disk e k d t M (below.0, below.1)) its_coord)
          (query_own from u d.intents t.coord))
          (let g = below.1 in g.fits (record { from = from; to = k; message = m }) there)

  pub act_left : (hd : Header) (i : Input) → is_act i ≡ true → refusal_up hd i t.coord ≡ None →
      (let r = acts_of i d.intents t.coord in Left M.sent k d t (with_coord t r.part) r.outs)
  act_left hd i is free =
      let r = acts_of i d.intents t.coord in
      let u = its_up in
      (quiet_left M.sent k d t (with_coord t r.part) r.outs (same_goes t.naming) (coord_quiet r.part r.outs (well_acts below.0 (paths_of
      below.0) tree d.intents t.coord its_coord (let f = u.faithful in f.works) hd i free other).1 (acts_own i d.intents t.coord)))
    where
      other : (l : Label) (how : Kind) (parent : Option Label) → i ≢ input.Begin l how parent
      other l how parent same = let no_way : false ≡ true = sym (ap is_act same) ∙ is in cc no_way

  pub tick_left : Left M.sent k d t (with_coord t (again_all t.coord.doings t.coord).part)
      (tick_outs (record { number = k; disk = d; live = Some t }) t)
  tick_left =
      let r = again_all t.coord.doings t.coord in
      let u = its_up in
      let tolds = tolds_again t.coord.telling in
      (quiet_left M.sent k d t (with_coord t r.part) (tick_outs (record { number = k; disk = d; live = Some t }) t) (same_goes t.naming)
      (quiet_both (r.outs ++ tolds) (map query_about (holders d t)) (quiet_both r.outs tolds
      (coord_quiet r.part r.outs (well_again below.0 (paths_of below.0) tree t.coord its_coord).1 (again_own t.coord.doings t.coord))
      (coord_quiet t.coord tolds (true_records t.coord u.faithful) (tolds_again_own t.coord.telling))) (queries (holders d t))))

  begin_walk : (l : Label) (how : Kind) (parent : Option Label) (g : Labelled) →
      Walks NamingKnows e k (let r = begin_action l how parent (parent_of parent t.coord) t.coord in
      r.outs) (Up NamingKnows k (with_coord t (begin_action l how parent (parent_of parent t.coord) t.coord).part)) d (given l g M)
  begin_walk l how parent g =
      let v = with_coord t (begin_action l how parent (parent_of parent t.coord) t.coord).part in (
        (λ T passes. knows.0 T (one_here T k d d (Some v) (Some t) M
            (λ is p. record { low = p.low; before = p.before; live = p.live; lists = p.lists }) passes)),
        entries_back k d (Some v) M (entries_here k d (Some t) M knows.1),
      )

-- ---- restarts, and at first

-- what a restart does behind its incarnation
module _ (hd : Header) (k : ℕ) (d : Disk) where
  abbrev pub rest : List Effect
  rest = ((((Say (body.Up k (d.inc + 1)) ∷ Do Look ∷ naming_back (naming_at k (d.inc + 1) d.names)) ++ (Do Look ∷ recovered_records k
      d.intents)) ++ tolds_again d.intents) ++ map query_about (uid_set (prepared_actions d.store ++ prepared_actions d.names)))
      ++ map (hello_to k (d.inc + 1)) (without_number k (numbers_to hd.nodes))

  pub rest_quiet : AllQuiet rest
  rest_quiet = quiet_both four hellos
      (quiet_both three asking (quiet_both two tolds (quiet_both one records (tt, (tt, back_so (naming_at k (d.inc + 1) d.names)))
      (tt, all_map IsQuiet (λ (z : Uid × Intent). Say (body.Recovered k z.0)) d.intents (λ z. tt))) (all_flat IsQuiet
      (λ (z : Uid × Intent). tell_all z.1.root true ((z.0, ending.Commit) ∷ []) z.1.nodes) d.intents (λ z. all_map IsQuiet (tell z.1.root
      true ((z.0, ending.Commit) ∷ [])) z.1.nodes (λ n. refl)))) (queries (uid_set (prepared_actions d.store ++ prepared_actions d.names))))
      (all_map IsQuiet (hello_to k (d.inc + 1)) (without_number k (numbers_to hd.nodes)) (λ w. refl))
    where
      back_so : (o : Option Naming) → AllQuiet (naming_back o)
      back_so None = tt
      back_so (Some o) = all_flat IsQuiet (λ (z : ℕ × Named). back_lines z.1) o.objects (λ z. all_map IsQuiet _ z.1.rows (λ r. tt))

      one : List Effect
      one = Say (body.Up k (d.inc + 1)) ∷ Do Look ∷ naming_back (naming_at k (d.inc + 1) d.names)

      records : List Effect
      records = Do Look ∷ recovered_records k d.intents

      two : List Effect
      two = one ++ records

      tolds : List Effect
      tolds = tolds_again d.intents

      three : List Effect
      three = two ++ tolds

      asking : List Effect
      asking = map query_about (uid_set (prepared_actions d.store ++ prepared_actions d.names))

      four : List Effect
      four = three ++ asking

      hellos : List Effect
      hellos = map (hello_to k (d.inc + 1)) (without_number k (numbers_to hd.nodes))

module _ (hd : Header) (e k : ℕ) (d : Disk) (M : Seen) (knows : NamingKnows (down k d M)) where
  abbrev v : Parts
  v = parts_in k (d.inc + 1) d

  it_is : AreHere k d M
  it_is = entries_here k d None M knows.1

  stops : (c : Disk) → d.inc ≤ c.inc → (T : Tests) → Passes T (at k c None M) → AreAnswered T M.sent
  stops c le T passes = knows.0 T (one_here T k c d None None M (λ is p. record {
    low = λ i l. p.low i (up_to i d.inc c.inc l le);
    before = before_less T d.inc (c.inc + 1) (next_up d.inc c.inc le) p.live;
    live = before_less T (d.inc + 1) (c.inc + 1) (up_one d.inc c.inc le) p.live;
    lists = p.lists;
  }) passes)

  ends : (c : Disk) → d.inc + 1 ≤ c.inc → (T : Tests) → Passes T (up k c v M) → AreAnswered T M.sent
  ends c le T passes = knows.0 T (one_here T k c d (Some v) None M (λ is p. record {
    low = λ i l. p.low i (far i d.inc c.inc l le);
    before = before_less T d.inc c.inc (near d.inc c.inc le) p.before;
    live = before_less T (d.inc + 1) c.inc le p.before;
    lists = p.lists;
  }) passes)
    where
      far : (i a b : ℕ) → i ≤ a → a + 1 ≤ b → i ≤ b
      far i a b x y = omega (arith, x, y)

      near : (a b : ℕ) → a + 1 ≤ b → a ≤ b
      near a b x = omega (arith, x)

  stopped_so : (how : Stop) (w : Work) → IncUp d.inc (Do w) → Confirms M.sent k (Do w) → NamingKnows (halted e k (stopped how w d) M)
  stopped_so how w up fine = (
    λ T passes. stops (stopped how w d) (inc_stopped d.inc how w d up (omega arith)) T passes,
    entries_back k (stopped how w d) None M
        (record { own = λ is first. names_stopped M.sent k how w d fine (it_is.own is first); others = it_is.others }),
  )

  pub restart_walk : Walks NamingKnows e k (restart_outs hd k (d.inc + 1) d) (Up NamingKnows k (parts_in k (d.inc + 1) d)) d M
  restart_walk = (
    λ how. stopped_so how Look tt tt,
    (
      λ how. stopped_so how (PutInc (d.inc + 1)) (omega arith) tt,
      walks_both AnswersClaim EntriesConfirmed e k (rest hd k d) (Up AnswersClaim k v) (Up EntriesConfirmed k v)
          (record d { inc = d.inc + 1 }) M
          (answer_walk M.sent (λ T. AreAnswered T M.sent) e k v (rest hd k d) (record d { inc = d.inc + 1 }) M (d.inc + 1)
          (λ T ok. quiet_claims M.sent k T (rest hd k d) (rest_quiet hd k d)) (λ p i. i) (λ T ok. ok) (quiet_incs (d.inc + 1)
          (rest hd k d) (rest_quiet hd k d)) (omega arith) (λ c le T passes. stops c (nearer d.inc c.inc le) T passes) ends)
          (entry_walk M.sent e k v (rest hd k d) (record d { inc = d.inc + 1 }) M (quiet_confirms M.sent k (rest hd k d)
          (rest_quiet hd k d)) (λ first top x w. w) (record { own = it_is.own; others = it_is.others })),
    ),
  )
    where
      nearer : (a b : ℕ) → a + 1 ≤ b → a ≤ b
      nearer a b x = omega (arith, x)

first_knows : (hd : Header) → IsAtStarts hd NamingKnows
first_knows hd st formed =
    ((λ T passes. tt), λ first n is. subst (λ (z : Node). AreConfirmed [] (let c = z.disk in c.names)) (first_at hd st 1 n is) tt)

-- ---- all of it

abbrev pub NamingBase : Seen → Type 0
NamingBase M = (RecordsSettle M × Below M) × (KnowsFew M × AreSaid M)

pub naming_given : (hd : Header) → KeepsGiven hd NamingBase NamingKnows
naming_given hd = record {
  quiet = λ e bs M quiet_lines g p. p;
  stop = λ e k d live M g p. halts e k d live M g p;
  message = λ e k d t v from m outs M g p there meant is.
      left_walk e k d t M g.0.0 g.0.1 g.1.0 g.1.1 p v outs (message_left e k d t M g.0.0 g.0.1 g.1.0 g.1.1 p v from m outs there is);
  act = λ e k d t i M is free g p. (let r = acts_of i d.intents t.coord in left_walk e k d t M g.0.0 g.0.1 g.1.0 g.1.1 p
      (with_coord t r.part) r.outs (act_left e k d t M g.0.0 g.0.1 g.1.0 g.1.1 p hd i is free));
  begin = λ e k d t l how parent M new may free g p.
      begin_walk e k d t M g.0.0 g.0.1 g.1.0 g.1.1 p l how parent (record { node = k; serial = is_serial how });
  tick = λ e k d t M g p. left_walk e k d t M g.0.0 g.0.1 g.1.0 g.1.1 p (with_coord t (again_all t.coord.doings t.coord).part)
      (tick_outs (record { number = k; disk = d; live = Some t }) t) (tick_left e k d t M g.0.0 g.0.1 g.1.0 g.1.1 p);
  restart = λ e k d M g p. restart_walk hd e k d M p;
  first = first_knows hd;
}
  where
    halts : (e k : ℕ) (d : Disk) (live : Option Parts) (M : Seen) → NamingBase (at k d live M) → NamingKnows (at k d live M) →
        NamingKnows (halted e k d M)
    halts e k d None M g p = p
    halts e k d (Some t) M g p = (let w = left_walk e k d t M g.0.0 g.0.1 g.1.0 g.1.1 p t (Do Look ∷ [])
        (quiet_left M.sent k d t t (Do Look ∷ []) (same_goes t.naming) (tt, tt)) in w.0 Before)
