-- Each surviving call is locked for, at each place to the last commit call of its unit at which the machine was seen.
use Rattle.arj_law_parts.proofs.Words
use Words.{◌≡◌, ◌≢◌, ◌⊎◌, ◌<◌, ◌≤◌, ℕ, ◌+◌, ◌==◌, ◌&&◌, ◌||◌, List, [], ◌∷◌, length, take, Bool, true, false, cond, max, zero, suc, Option}
use Words.{Some, None, refl, sym, ◌∙◌, ap, subst, inl, inr, ⊎_elim, arith, eqb-true, eq-eqb, Contains, list_any, and_parts, nat_tests}
use Words.{uid_is, uid_other, uid_same, Row, is_on, last_uid, entry, object, uid_eq, Mode, Uid, is_write, writes, Body, Line, In}
use Words.{in_filter_map, in_from, in_to, caller_at, is_number, is_upper_of, locks_call, locks_entry}
use Rattle.arj_law_serial.proofs.Terms
use Terms.{Act, Placed, acts, acts_after, chain_in, committed, path, path_in, put, read, recovered, root_in, uids, Said, Top}
use Terms.{committed_calls, kept, root_or, said_of, tops, uid_of_id, Values, root_of, unit_place, path_by, locks_for, unit_end, new_book}
use Terms.{AreDistinct, AreRight, has_act, AreSound, its_sound, path_new, path_old, on, root, same, top, Closes, IsCommitted, OfUnit, Run}
use Terms.{stay, step, State, Survives, Holds, run_keeps, start_holds, step_keeps, is_held, on_root, same_is, roots_low, start_low, Acts}
use Terms.{SeesRows, held_in, strength, IsCallOf, said_on, IsHeldByUpper, IsSeenAt, ran_at, Began, IsTied, path_of}
use Terms.kind
use Terms.machine
use Terms.state
use Rattle.arj_law_lock.proofs.machine.Ordered.{is_at_one_node}
use Rattle.arj_law_lock.specs.machine.Laws.{IsAtOneNode, IsHeld}
use Rattle.arj_law_runs.proofs.journal.{Books.never, Models.among}
use Rattle.arj_law_serial.proofs.{order.Paths.own_last, order.Paths.own_there, order.Ties.Tie, order.Ties.tie_of, order.Tying.member}
use Rattle.arj_law_serial.proofs.{order.Values.any_said, order.Values.kept_shape, order.Values.to_object}
use Rattle.arj_law_serial.proofs.order.Order.{IsShown, IsTopOf, before_top, find_call, head_of, is_top_in, its_root, its_top, listed}
use Rattle.arj_law_serial.proofs.order.Order.{one_unit, place_in, root_of_top, same_number, stage_of_top, top_item, unit_behind}
use Rattle.arj_law_serial.proofs.order.Order.{upper_chain}
use Rattle.arj_model.specs.{Calls.Call, Calls.said, Held.first_of, Held.holder_root, Held.root_of_call, Held.root_uid}
use Rattle.arj_base.specs.declared.mode.Mode.TheVariants as mode
use Rattle.arj_law_lock.specs.machine.Rows as machine_rows

-- ---- what is read of the first lines

read_from : {A : Type 0} (f : List Act → Body → Option A) (us : List Act) (n : ℕ) (ls : List Line) (s : Placed A) → In s (read f us n ls) →
    n ≤ s.at
read_from f us n [] s i = absurd i
read_from {A} f us n (l ∷ ls) s i = by (f us l.body) i (λ j. read_from f (acts_after us l.body) (n + 1) ls s j)
  where
    by : (o : Option A) → In s (put n o (read f (acts_after us l.body) (n + 1) ls)) →
        (In s (read f (acts_after us l.body) (n + 1) ls) → n + 1 ≤ s.at) → n ≤ s.at
    by None j ih = let e = ih j in omega (arith, e)
    by (Some a) (inl is) ih = let e : n ≡ s.at = ap (λ (z : Placed A). z.at) is in omega (arith, e)
    by (Some a) (inr j) ih = let e = ih j in omega (arith, e)

pub read_taken : {A : Type 0} (f : List Act → Body → Option A) (us : List Act) (n : ℕ) (ls : List Line) (p : ℕ) (s : Placed A) →
    In s (read f us n ls) → s.at < n + p → In s (read f us n (take p ls))
read_taken f us n [] p s i less = absurd i
read_taken f us n (l ∷ ls) zero s i less = let e = read_from f us n (l ∷ ls) s i in absurd (omega (arith, e, less))
read_taken {A} f us n (l ∷ ls) (suc p) s i less =
    by (f us l.body) i (λ j. read_taken f (acts_after us l.body) (n + 1) ls p s j (omega (arith, less)))
  where
    by : (o : Option A) → In s (put n o (read f (acts_after us l.body) (n + 1) ls)) → (In s (read f (acts_after us l.body) (n + 1) ls) →
        In s (read f (acts_after us l.body) (n + 1) (take p ls))) → In s (put n o (read f (acts_after us l.body) (n + 1) (take p ls)))
    by None j ih = ih j
    by (Some a) (inl is) ih = inl is
    by (Some a) (inr j) ih = inr (ih j)

pub read_below : {A : Type 0} (f : List Act → Body → Option A) (us : List Act) (n : ℕ) (ls : List Line) (s : Placed A) →
    In s (read f us n ls) → s.at < n + length ls
read_below f us n [] s i = absurd i
read_below {A} f us n (l ∷ ls) s i = by (f us l.body) i (λ j. read_below f (acts_after us l.body) (n + 1) ls s j)
  where
    by : (o : Option A) → In s (put n o (read f (acts_after us l.body) (n + 1) ls)) →
        (In s (read f (acts_after us l.body) (n + 1) ls) → s.at < n + 1 + length ls) → s.at < n + length (l ∷ ls)
    by None j ih = let e = ih j in omega (arith, e)
    by (Some a) (inl is) ih = let e : n ≡ s.at = ap (λ (z : Placed A). z.at) is in omega (arith, e)
    by (Some a) (inr j) ih = let e = ih j in omega (arith, e)

-- who made a call, by its place
caller_found : (us : List Act) (n : ℕ) (ls : List Line) (s : Placed Said) → In s (read said_of us n ls) →
    caller_at s.at (read said_of us n ls) ≡ uids s.it.path
caller_found us n [] s i = absurd i
caller_found us n (l ∷ ls) s i = by (said_of us l.body) i (λ j. caller_found (acts_after us l.body) (n + 1) ls s j)
    (λ j. read_from said_of (acts_after us l.body) (n + 1) ls s j)
  where
    off : (m k : ℕ) → m + 1 ≤ k → (m == k) ≡ false
    off m k less = grind (arith, less)

    by : (o : Option Said) → In s (put n o (read said_of (acts_after us l.body) (n + 1) ls)) →
        (In s (read said_of (acts_after us l.body) (n + 1) ls) → caller_at s.at (read said_of (acts_after us l.body) (n + 1) ls)
        ≡ uids s.it.path) → (In s (read said_of (acts_after us l.body) (n + 1) ls) → n + 1 ≤ s.at)
        → caller_at s.at (put n o (read said_of (acts_after us l.body) (n + 1) ls)) ≡ uids s.it.path
    by None j ih from = ih j
    by (Some a) (inl is) ih from = (λ i. cond (eq-eqb n s.at (ap (λ (z : Placed Said). z.at) is) i) (uids a.path)
        (caller_at s.at (read said_of (acts_after us l.body) (n + 1) ls))) ∙ ap (λ (z : Placed Said). uids z.it.path) is
    by (Some a) (inr j) ih from =
        (λ i. cond (off n s.at (from j) i) (uids a.path) (caller_at s.at (read said_of (acts_after us l.body) (n + 1) ls))) ∙ ih j

pub taken_length : (p : ℕ) (ls : List Line) → length (take p ls) ≤ p
taken_length zero [] = omega arith
taken_length (suc p) [] = omega arith
taken_length zero (l ∷ ls) = omega arith
taken_length (suc p) (l ∷ ls) = let e = taken_length p ls in omega (arith, e)

-- ---- rows

pub any_in : {A : Type 0} (f : A → Bool) (x : A) (xs : List A) → In x xs → f x ≡ true → list_any f xs ≡ true
any_in f x [] i e = absurd i
any_in f x (y ∷ ys) (inl is) e = ap (λ b. b || list_any f ys) (ap f is ∙ e)
any_in f x (y ∷ ys) (inr i) e = by (f y) (any_in f x ys i e)
  where
    by : (b : Bool) → list_any f ys ≡ true → (b || list_any f ys) ≡ true
    by true g = refl
    by false g = g

pub both_true : (a b : Bool) → a ≡ true → b ≡ true → (a && b) ≡ true
both_true a b f g = (λ i. f i && g i)

-- a row that is seen stands in the table
pub record IsRow (act : Acts) (o : Uid) (h : machine.Act) (k : ℕ) (rows : List Row) : Type 0 where
  pub row : Row
  pub there : In row rows
  pub of_object : uid_eq row.object o ≡ true
  pub holder : act (last_uid row.holder) ≡ h
  pub strong : k ≤ strength row.mode

pub find_row : (act : Acts) (o : Uid) (h : machine.Act) (k : ℕ) (rows : List Row) → 1 ≤ k → k ≤ held_in act o h rows → IsRow act o h k rows
find_row act o h k [] one less = absurd (omega (arith, one, less))
find_row act o h k (r ∷ rs) one less = by (uid_eq r.object o && same (act (last_uid r.holder)) h) refl less (find_row act o h k rs one)
  where
    more : IsRow act o h k rs → IsRow act o h k (r ∷ rs)
    more i = record { row = i.row; there = inr i.there; of_object = i.of_object; holder = i.holder; strong = i.strong }

    either : (m n : ℕ) → k ≤ max m n → (k ≤ m) ⊎ (k ≤ n)
    either m n e = grind (arith, nat_tests)

    by : (b : Bool) → (uid_eq r.object o && same (act (last_uid r.holder)) h) ≡ b →
        k ≤ max (cond b (strength r.mode) 0) (held_in act o h rs) → (k ≤ held_in act o h rs → IsRow act o h k rs) → IsRow act o h k (r ∷ rs)
    by true is e ih = ⊎_elim
        (λ here. let p = and_parts (uid_eq r.object o) (same (act (last_uid r.holder)) h) is in
        record { row = r; there = inl refl; of_object = p.0; holder = same_is (act (last_uid r.holder)) h p.1; strong = here })
        (λ there. more (ih there)) (either (strength r.mode) (held_in act o h rs) e)
    by false is e ih = more (ih (⊎_elim (λ here. absurd (omega (arith, one, here))) (λ there. there) (either 0 (held_in act o h rs) e)))

pub write_mode : (m : Mode) → 2 ≤ strength m → is_write m ≡ true
write_mode mode.Read e = absurd (omega (arith, e))
write_mode mode.Exclude e = absurd (omega (arith, e))
write_mode mode.Write e = refl

-- ---- roots

pub number_uid : (a : Act) (xs : List Act) → ((x : Act) → In x xs → x.id ≡ a.id → x ≡ a) → In a xs → uid_of_id xs a.id ≡ a.uid
number_uid a [] apart i = absurd i
number_uid a (x ∷ xs) apart i = by (x.id == a.id) refl i (λ j. number_uid a xs (λ y k. apart y (inr k)) j)
  where
    by : (b : Bool) → (x.id == a.id) ≡ b → In a (x ∷ xs) → (In a xs → uid_of_id xs a.id ≡ a.uid) → cond b x.uid (uid_of_id xs a.id) ≡ a.uid
    by true is j ih = ap (λ (z : Act). z.uid) (apart x (inl refl) (eqb-true x.id a.id is))
    by false is (inl same_one) ih = never (eq-eqb x.id a.id (ap (λ (z : Act). z.id) same_one)) is
    by false is (inr j) ih = ih j

path_of_uid : (xs : List Act) → AreDistinct xs → (b : Act) → In b xs → path_by xs b.uid ≡ path xs b.label
path_of_uid [] apart b i = absurd i
path_of_uid (x ∷ xs) apart b (inl is) = subst (λ (z : Act). path_by (x ∷ xs) z.uid ≡ path (x ∷ xs) z.label) is
    (ap (λ c. cond c (path_in xs x) (path_by xs x.uid)) (uid_same x.uid) ∙ sym (path_new x xs))
path_of_uid (x ∷ xs) apart b (inr i) =
    ap (λ c. cond c (path_in xs x) (path_by xs b.uid)) (uid_other x.uid b.uid (λ e. never (ap (has_act xs) e ∙ among xs b i) apart.2))
    ∙ path_of_uid xs apart.3 b i ∙ sym (path_old x xs b apart.1 i)

-- the last member of a unit
pub unit_last : (ts : List Top) (r : ℕ) → (unit_place ts r ≡ 0) ⊎ ((u : Top) × In u ts × (u.root ≡ r) × (u.at ≡ unit_place ts r))
unit_last [] r = inl refl
unit_last (t ∷ ts) r = by (t.root == r) refl (unit_last ts r)
  where
    first : (m n : ℕ) → n ≤ m → max m n ≡ m
    first m n e = grind (arith, nat_tests)

    second : (m n : ℕ) → m ≤ n → max m n ≡ n
    second m n e = grind (arith, nat_tests)

    order : (m n : ℕ) → (n ≤ m) ⊎ (m ≤ n)
    order m n = grind arith

    here : t.root ≡ r → unit_place ts r ≤ t.at → (u : Top) × In u (t ∷ ts) × (u.root ≡ r) × (u.at ≡ max t.at (unit_place ts r))
    here e less = (t, inl refl, e, sym (first t.at (unit_place ts r) less))

    by : (b : Bool) → (t.root == r) ≡ b → (unit_place ts r ≡ 0) ⊎ ((u : Top) × In u ts × (u.root ≡ r) × (u.at ≡ unit_place ts r))
        → (cond b (max t.at (unit_place ts r)) (unit_place ts r) ≡ 0)
        ⊎ ((u : Top) × In u (t ∷ ts) × (u.root ≡ r) × (u.at ≡ cond b (max t.at (unit_place ts r)) (unit_place ts r)))
    by true is (inl none) = inr (here (eqb-true t.root r is) (omega (arith, none)))
    by true is (inr (u, i, e, at)) = ⊎_elim (λ less. inr (here (eqb-true t.root r is) less))
        (λ more. inr (u, inr i, e, at ∙ sym (second t.at (unit_place ts r) more))) (order t.at (unit_place ts r))
    by false is (inl none) = inl none
    by false is (inr (u, i, e, at)) = inr (u, inr i, e, at)

-- ---- runs

pub run_place : {S T : State} → Run S T → Holds S → (a : machine.Act) → 1 ≤ (S.action a).stage → (T.action a).place ≡ (S.action a).place
run_place stay h a one = refl
run_place (step e guard rest) h a one =
    let k = step_keeps e _ guard h in
    let l = k.0 in
    let more = l.stage a in
    run_place rest k.1 a (omega (arith, one, more)) ∙ l.place a one

module _ (values : Values) (lines : List Line) (right : AreRight new_book lines) (x : ℕ) (T : State) (t : IsTied values lines x T) where
  abbrev pub tie : Tie values lines x T
  tie = tie_of values lines x T t

  sound : AreSound (acts lines)
  sound = its_sound lines right

  holds : Holds T
  holds = run_keeps tie.run (start_holds (tie.code (values x) tie.writer))

  one_node : IsAtOneNode T
  one_node = is_at_one_node holds (roots_low tie.run (start_low (tie.code (values x) tie.writer)))

  -- an action that isn't nested is the root with this number, or a top of it
  pub its_number : (b : Act) → In b (acts lines) → b.kind ≢ kind.Nested → (n : ℕ) → root_in (path_of lines b) ≡ Some n →
      is_upper_of lines n b.uid ≡ true
  its_number b i upper n e =
      let its_path = path_of_uid (acts lines) sound.distinct b i in
      both_true (is_number (root_in (path_by (acts lines) b.uid)) n) (length (chain_in (path_by (acts lines) b.uid)) == 0)
      (ap (λ q. is_number (root_in q) n) its_path ∙ ap (λ o. is_number o n) e ∙ eq-eqb n n refl)
      (ap (λ q. length (chain_in q) == 0) its_path ∙ ap (λ (q : List Act). length q == 0) (upper_chain lines right b i upper))

  -- the unit of a call
  unit_is : (c : Call) (s : IsShown values lines right x T tie c) → root_of_call lines c ≡ (let n = s.number in n.root)
  unit_is c s =
      ap (root_of (tops lines)) s.top_number ∙ root_of_top (tops lines) s.number (let l = listed lines right in l.apart) s.listed_top

  end_is : (c : Call) (s : IsShown values lines right x T tie c) → unit_end lines c ≡ unit_place (tops lines) (let n = s.number in n.root)
  end_is c s = ap (unit_place (tops lines)) (unit_is c s)

  -- its last member
  pub last_top : (c : Call) (s : IsShown values lines right x T tie c) →
      (u : Top) × In u (tops lines) × (u.root ≡ (let n = s.number in n.root)) × (u.at ≡ unit_end lines c)
  last_top c s = ⊎_elim
      (λ none. let l = unit_behind (tops lines) s.number s.listed_top in let z : (let n = s.number in n.at) ≡ 0 = omega (arith, l, none) in
      (s.number, s.listed_top, refl, z ∙ sym (end_is c s ∙ none)))
      (λ found. (found.0, found.1, found.2, found.3 ∙ sym (end_is c s))) (unit_last (tops lines) (let n = s.number in n.root))

  pub answered : (c : Call) (s : IsShown values lines right x T tie c) → c.at < unit_end lines c
  answered c s =
      let e = before_top values lines right x T tie c s in
      let l = unit_behind (tops lines) s.number s.listed_top in
      let end = end_is c s in
      omega (arith, e, l, end)

  -- the writer of a call
  writer_is : (c : Call) (s : IsShown values lines right x T tie c) → c.writer ≡ (let i = s.top_of_it in let a = i.act in a.uid)
  writer_is c s = let k = s.kept_as in let m = s.made_by in
      ap (λ (z : Call). z.writer) (sym k.same) ∙ ap (λ (z : Act). z.uid) (sym s.same_top)

  root_is : (c : Call) (s : IsShown values lines right x T tie c) → root (let d = s.call in d.act) ≡ root (t.act c.writer)
  root_is c s = its_root values lines right x T tie c s ∙ ap (λ u. root (t.act u)) (sym (writer_is c s))

  -- the root of a unit, by number and by Uid
  record IsRoot (c : Call) (b : Act) : Type 0 where
    number : root_in (path_of lines b) ≡ Some (root_of_call lines c)
    first : first_of (uids (path_of lines b)) ≡ root_uid lines c

  -- an action that stands in the unit of the call in the machine is of its root
  of_unit : (c : Call) (s : IsShown values lines right x T tie c) (b : Act) → In b (acts lines) →
      root (t.act b.uid) ≡ root (let d = s.call in d.act) → IsRoot c b
  of_unit c s b i e =
      let a = s.top_of_it in
      let p = t.places in
      let same_root = p.units b a.act (in_to b (acts lines) i) (in_to a.act (acts lines) a.there)
      (e ∙ its_root values lines right x T tie c s) in
      let h = head_of lines right a.act a.there in
      let g = first_act b i in
      let id : h.0.id ≡ root_of_call lines c = ap (root_or a.act.id) (sym h.2) ∙ sym a.root_is ∙ sym (unit_is c s) in
      let number : root_in (path_of lines b) ≡ Some (root_of_call lines c) = same_root ∙ h.2 ∙ ap Some id in
      let there : In g.0 (acts lines) = member values lines right x T tie b g.0 g.1 in
      let one : g.0.id ≡ root_of_call lines c = some_one g.0.id (root_of_call lines c) (sym g.2 ∙ number) in
      record {
        number = number;
        first = g.3 ∙ sym
            (ap (uid_of_id (acts lines)) (sym one) ∙ number_uid g.0 (acts lines) (λ y k f. same_number lines right y g.0 k there f) there);
      }
    where
      some_one : (m n : ℕ) → ◌≡◌ {A = Option ℕ} (Some m) (Some n) → m ≡ n
      some_one m n f = cc

      first_act : (b : Act) → In b (acts lines) →
          (h : Act) × In h (path_of lines b) × (root_in (path_of lines b) ≡ Some h.id) × (first_of (uids (path_of lines b)) ≡ h.uid)
      first_act b i = by (path_of lines b) (own_there (acts lines) sound.distinct sound.formed b i)
        where
          by : (q : List Act) → In b q → (h : Act) × In h q × (root_in q ≡ Some h.id) × (first_of (uids q) ≡ h.uid)
          by [] j = absurd j
          by (h ∷ q) j = (h, inl refl, refl, refl)

  -- ---- at a place

  module _ (p : ℕ) (seen : IsSeenAt values lines x T t p) (c : Call) (s : IsShown values lines right x T tie c) (behind : c.at < p)
      (in_unit : p ≤ unit_end lines c) where
    abbrev pub S : State
    S = seen.state

    pub here : Holds S
    here = run_keeps seen.before (start_holds t.first)

    -- the call, as the state has it
    pub found_call : (d : state.Call) × machine.In d S.calls × IsCallOf t.act t.code s.item d
    found_call =
        let l = seen.tied in
        let at : (let i = s.item in i.at) < 0 + p = (let a = s.line in let i = s.is in let b = i.line in omega (arith, a, b, behind)) in
        let o = on_item in
        find_call values lines right x T tie (said_on x (take p lines)) S.calls l.calls s.item
        (to_object x (take p lines) s.item (read_taken said_of [] 0 lines p s.item o.0 at) o.1)
      where
        on_item : In s.item (said lines) × ((let i = s.item in let j = i.it in j.x) ≡ x)
        on_item = (s.item_there, s.item_object)

    abbrev pub d : state.Call
    d = found_call.0

    pub same_act : d.act ≡ (let e = s.call in e.act)
    same_act = let i = found_call.2 in let j = s.is in i.caller ∙ sym j.caller

    same_write : d.write ≡ writes c.op
    same_write = let i = found_call.2 in let j = s.is in i.write ∙ sym j.write ∙ s.write

    abbrev pub u : Top
    u = (last_top c s).0

    pub item : IsTopOf lines u
    item = top_item lines right u (last_top c s).1

    abbrev pub m : machine.Act
    m = t.act (let a = item.act in a.uid)

    -- the last commit isn't called yet
    pub zero_yet : (S.action m).stage ≡ 0
    zero_yet = ⊎_elim (λ zero. zero) (λ one.
        let tops = here.tops m (is_top_in values lines right x T tie item.act item.there item.kind) in
        let before = tops.before in
        let place = run_place seen.behind here m one in
        let l = seen.tied in
        let now = l.now in
        let few = taken_length p lines in
        let at = place_in values lines right x T tie u item in
        let end = (last_top c s).3 in
        absurd (omega (arith, before, place, now, few, at, end, in_unit))) (cases (S.action m).stage)
      where
        cases : (n : ℕ) → (n ≡ 0) ⊎ (1 ≤ n)
        cases n = grind arith

    committed_last : IsCommitted T m
    committed_last = (is_top_in values lines right x T tie item.act item.there item.kind, stage_of_top values lines right x T tie u item)

    root_last : root m ≡ root (let e = s.call in e.act)
    root_last =
        one_unit values lines right x T tie u s.number item s.top_of_it (last_top c s).2 ∙ sym (its_root values lines right x T tie c s)

    pub closes : Closes T m d.act
    closes = (
      committed_last,
      root_last ∙ ap root (sym same_act),
      (let own : (T.action (top d.act)).place ≡ (let n = s.number in n.at) + 1 = ap (λ a. (T.action (top a)).place) same_act ∙ ap
          (λ a. (T.action a).place) (its_top values lines right x T tie c s) ∙ place_in values lines right x T tie s.number s.top_of_it in
          let at = place_in values lines right x T tie u item in
          let end = (last_top c s).3 in
          let l = unit_behind (tops lines) s.number s.listed_top in
          let e = end_is c s in
          omega (arith, own, at, end, l, e)),
    )

    pub held : IsHeld S T d
    held = is_held seen.behind here (roots_low seen.before (start_low t.first)) d m found_call.1
        (subst (Survives T) (sym same_act) s.survives) closes zero_yet

    pub same_node : (T.binding (T.kept (root d.act))).server ≡ ran_at values lines x T t c
    same_node = ap (λ r. (T.binding (T.kept r)).server) (ap root same_act ∙ root_is c s)

    mode_high : (w : Bool) → 1 ≤ machine_rows.mode w
    mode_high true = omega arith
    mode_high false = omega arith

    -- the call's path stays as it is
    pub survives_on : Survives T d.act
    survives_on = subst (Survives T) (sym same_act) s.survives

    -- where rows on the object are by paths of the journal, and show what the machine has, the call is locked for in them
    pub objects_by : (rows : List Row) → ((r : Row) → Contains rows r → r.object ≡ object x →
        (b : Act) × Began lines b × (r.holder ≡ uids (path_of lines b))) → (R : machine.Act → ℕ) → SeesRows t.act (object x) rows R
        → (h : machine.Act) → on d.act h ≡ true → machine_rows.mode d.write ≤ R h → list_any (locks_call lines c) rows ≡ true
    objects_by rows holders R sees who above enough =
        let less : machine_rows.mode d.write ≤ held_in t.act (object x) who rows = (let b = sees who in omega (arith, enough, b)) in
        let r = find_row t.act (object x) who (machine_rows.mode d.write) rows (mode_high d.write) less in
        let h = holders r.row (in_to r.row rows r.there) (uid_is (let w = r.row in w.object) (object x) r.of_object) in
        let b = in_from h.0 (acts lines) h.1 in
        let last : last_uid (let w = r.row in w.holder) ≡ h.0.uid = ap last_uid h.2
        ∙ own_last (acts lines) sound.distinct sound.formed h.0 b in
        let its : t.act h.0.uid ≡ who = ap t.act (sym last) ∙ r.holder in
        let stands : root (t.act h.0.uid) ≡ root (let e = s.call in e.act) = ap root its ∙ sym (on_root d.act who above)
        ∙ ap root same_act in
        let root_of_it = of_unit c s h.0 b stands in
        any_in (locks_call lines c) r.row rows r.there
        (both_true (locks_for lines c r.row) (is_on (caller_at c.at (said lines)) (last_uid (let w = r.row in w.holder)))
        (all_true (uid_eq (let w = r.row in w.object) (object c.x)) (uid_eq (holder_root r.row) (root_uid lines c))
        (cond (writes c.op) (is_write (let w = r.row in w.mode)) true)
        (ap (λ y. uid_eq (let w = r.row in w.object) (object y)) s.call_object ∙ r.of_object)
        (ap (λ us. uid_eq (first_of us) (root_uid lines c)) h.2 ∙ ap (λ v. uid_eq v (root_uid lines c)) root_of_it.first
        ∙ uid_same (root_uid lines c))
        (strong (writes c.op) (let w = r.row in
        w.mode) (subst (λ w. machine_rows.mode w ≤ strength (let z = r.row in z.mode)) same_write r.strong)))
        ((λ i. is_on (caller_is i) (last i))
        ∙ sym (let q = t.places in q.above maker h.0 (in_to maker (acts lines) (let m = s.made_by in m.there)) h.1)
        ∙ (λ i. on (by_maker i) (its i)) ∙ above))
      where
        all_true : (a b e : Bool) → a ≡ true → b ≡ true → e ≡ true → (a && (b && e)) ≡ true
        all_true a b e f g h = (λ i. f i && (g i && h i))

        strong : (w : Bool) (k : Mode) → machine_rows.mode w ≤ strength k → cond w (is_write k) true ≡ true
        strong true k e = write_mode k e
        strong false k e = refl

        maker : Act
        maker = let m = s.made_by in m.maker

        -- who made the call
        caller_is : caller_at c.at (said lines) ≡ uids (path_of lines maker)
        caller_is =
            let i = s.item in
            let m = s.made_by in
            let same_place : c.at ≡ i.at = (let a = s.line in let k = s.is in let b = k.line in omega (arith, a, b)) in
            ap (λ (p : ℕ). caller_at p (said lines)) same_place ∙ caller_found [] 0 lines i s.item_there ∙ ap uids m.path_is

        by_maker : t.act maker.uid ≡ d.act
        by_maker = let m = s.made_by in sym (same_act ∙ m.caller)

    unit_root : (h : machine.Act) → OfUnit d.act h → root h ≡ root d.act
    unit_root h (inl is) = ap root is
    unit_root h (inr (is, e)) = e

    -- and where those on its entry do, the entry is for its unit
    pub entries_by : (names : List Row) → ((r : Row) → Contains names r → r.object ≡ entry x → IsHeldByUpper lines r) →
        SeesRows t.act (entry x) names (let n = S.naming in n.rows) → list_any (locks_entry lines c) names ≡ true
    entries_by names askers sees =
        let naming = held.entry in
        let less : 1 ≤ held_in t.act (entry x) naming.0 names = (let a = naming.2 in let b = sees naming.0 in omega (arith, a, b)) in
        let r = find_row t.act (entry x) naming.0 1 names (omega arith) less in
        let h = askers r.row (in_to r.row names r.there) (uid_is (let w = r.row in w.object) (entry x) r.of_object) in
        let b = in_from h.0 (acts lines) h.1 in
        let stands : root (t.act h.0.uid) ≡ root (let e = s.call in e.act) = ap (λ v. root (t.act v)) (sym h.2) ∙ ap root r.holder
        ∙ unit_root naming.0 naming.1 ∙ ap root same_act in
        let root_of_it = of_unit c s h.0 b stands in
        any_in (locks_entry lines c) r.row names r.there
        (both_true (uid_eq (let w = r.row in w.object) (entry c.x))
        (is_upper_of lines (root_of_call lines c) (last_uid (let w = r.row in w.holder)))
        (ap (λ y. uid_eq (let w = r.row in w.object) (entry y)) s.call_object ∙ r.of_object)
        (ap (is_upper_of lines (root_of_call lines c)) h.2 ∙ its_number h.0 b h.3 (root_of_call lines c) root_of_it.number))

  -- ---- one node, and roots

  pub at_one_node : (c e : Call) (s : IsShown values lines right x T tie c) (w : IsShown values lines right x T tie e) → (root_of_call lines
      c == root_of_call lines e) ≡ false → c.at < e.at → e.at < unit_end lines c → ran_at values lines x T t c ≡ ran_at values lines x T t e
  at_one_node c e s w apart less within =
      let u = last_top c s in
      let item = top_item lines right u.0 u.1 in
      let m = t.act (let a = item.act in a.uid) in
      let other : root (let d = s.call in d.act) ≢ root (let d = w.call in d.act) = λ same_unit.
      let a = s.top_of_it in
      let g = of_unit e w a.act a.there (sym (its_root values lines right x T tie c s) ∙ same_unit) in
      let h = of_unit c s a.act a.there (sym (its_root values lines right x T tie c s)) in
      never (eq-eqb (root_of_call lines c) (root_of_call lines e)
      (some_one (root_of_call lines c) (root_of_call lines e) (sym h.number ∙ g.number))) apart in
      let root_last : root m ≡ root (let d = s.call in d.act) = one_unit values lines right x T tie u.0 s.number item s.top_of_it u.2
      ∙ sym (its_root values lines right x T tie c s) in
      let at = place_in values lines right x T tie u.0 item in
      let l = s.line in
      let k = w.line in
      let end = u.3 in
      let kept = one_node s.call w.call m s.there w.there (omega (arith, less, l, k)) s.survives w.survives other
      (is_top_in values lines right x T tie item.act item.there item.kind, stage_of_top values lines right x T tie u.0 item) root_last
      (omega (arith, k, at, end, within)) in
      ap (λ r. (T.binding (T.kept r)).server) (sym (root_is c s)) ∙ ap (λ b. (T.binding b).server) kept
      ∙ ap (λ r. (T.binding (T.kept r)).server) (root_is e w)
    where
      some_one : (m n : ℕ) → ◌≡◌ {A = Option ℕ} (Some m) (Some n) → m ≡ n
      some_one m n f = cc

-- ---- all objects

-- a call's object is called
pub called_by : (values : Values) (lines : List Line) (c : Call) → In c (committed_calls lines) →
    list_any (λ (s : Placed Said). s.it.x == c.x) (said lines) ≡ true
called_by values lines c i =
    let f = in_filter_map (kept (committed lines) (recovered lines)) c (said lines) i in
    let k = kept_shape values lines c.x f.0 c f.2 in
    any_said c.x f.0 (said lines) f.1 (sym k.1)
