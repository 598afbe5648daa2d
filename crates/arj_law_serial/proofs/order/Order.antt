-- Committed tops and surviving calls of an object, by its machine: their order, and that of nested actions.
use Rattle.arj_law_parts.proofs.Words
use Words.{◌≡◌, ◌≢◌, ◌⊎◌, ◌<◌, ◌≤◌, ℕ, ◌+◌, ◌==◌, ◌&&◌, ◌||◌, List, [], ◌∷◌, ◌++◌, Bool, true, false, cond, nat_lt, max, Some, None, refl}
use Words.{sym, ◌∙◌, ap, subst, inl, inr, ⊎_elim, arith, eqb-true, eq-eqb, AllByRecursion, and_parts, or_left, or_right, nat_tests, uid_is}
use Words.{writes, Kind, Line, In, in_filter_map, in_from, in_to, is_serial}
use Rattle.arj_law_serial.proofs.Terms
use Terms.{Act, Placed, acts, behind_first, chain_in, committed, has_end, is_committed, recovered, root_in, top_in, Said, Top}
use Terms.{committed_calls, committings, ids, kept, root_or, top_by, tops, is_among, Values, lex, root_of, serial_key, top_place}
use Terms.{unit_place, InOrder, is_top, new_book, IsDone, called, AreRight, one_act, AreSound, its_sound, is_sound, on, root, top, State}
use Terms.{Survives, Conflicting, IsCommitted, run_keeps, start_holds, on_root, on_top, top_of as topmost, top_root, roots_low, start_low}
use Terms.{AreCallsOf, IsCallOf, said_on, CommitsComeFirst, path_of}
use Terms.kind
use Terms.machine
use Terms.state
use Rattle.arj_law.specs.Joined.{AreCalled, is_called}
use Rattle.arj_law_lock.proofs.machine.Ordered.{is_in_order, is_nested}
use Rattle.arj_law_lock.specs.machine.Laws.{IsInOrder, IsNested}
use Rattle.arj_law_runs.proofs.journal.{Books.never, Likes.some_is, Models.apart_acts}
use Rattle.arj_law_runs.specs.journal.Laws.{AreApart, AreItsTops}
use Rattle.arj_law_serial.proofs.order
use order.{Items.IsCallOfTop, Items.call_top, Ties.Tie, Ties.Ties}
use order.Paths.{chain_on, found as found_by, own_there, own_top, parts, top_on, well}
use order.Timely.{AreTimely, run_timely, start_timely}
use order.Tying.{IsKeptSo, IsMade, acts_are, chain_nested, from_on, kept_so, kept_survives, made, member, on_it, shape_of}
use order.Values.{any_said, kept_shape, to_object}
use Rattle.arj_law_serial.specs.order.Decided.{IsCalledFirst}
use Rattle.arj_model.specs.{Book.OfEachTwo, Book.StandInOrder, Book.is_conflict, Calls.Call, Calls.said, Calls.top_of}
use Rattle.arj_model.specs.{Nested.AnsweredInTime, Nested.FreedInOrder, Nested.IsFreedFor, Nested.commit_place, Serial.serial_less}

-- ---- places of tops

pub off_one : (m n : ℕ) → m ≢ n → (m == n) ≡ false
off_one m n e = by (m == n) refl
  where
    by : (b : Bool) → (m == n) ≡ b → b ≡ false
    by true is = absurd (e (eqb-true m n is))
    by false is = refl

other_top : (u : Top) (t : Top) (ts : List Top) → AllByRecursion (λ (v : Top). u.id ≢ v.id) ts → In t ts → u.id ≢ t.id
other_top u t [] all i = absurd i
other_top u t (v ∷ ts) all (inl is) = subst (λ (z : Top). u.id ≢ z.id) is all.0
other_top u t (v ∷ ts) all (inr i) = other_top u t ts all.1 i

pub root_of_top : (ts : List Top) (t : Top) → AreApart ts → In t ts → root_of ts t.id ≡ t.root
root_of_top [] t apart i = absurd i
root_of_top (u ∷ ts) t apart (inl is) =
    ap (λ b. cond b u.root (root_of ts t.id)) (eq-eqb u.id t.id (ap (λ (z : Top). z.id) is)) ∙ ap (λ (z : Top). z.root) is
root_of_top (u ∷ ts) t apart (inr i) =
    ap (λ b. cond b u.root (root_of ts t.id)) (off_one u.id t.id (other_top u t ts apart.0 i)) ∙ root_of_top ts t apart.1 i

pub place_of_top : (ts : List Top) (t : Top) → AreApart ts → In t ts → top_place ts t.id ≡ t.at
place_of_top [] t apart i = absurd i
place_of_top (u ∷ ts) t apart (inl is) =
    ap (λ b. cond b u.at (top_place ts t.id)) (eq-eqb u.id t.id (ap (λ (z : Top). z.id) is)) ∙ ap (λ (z : Top). z.at) is
place_of_top (u ∷ ts) t apart (inr i) =
    ap (λ b. cond b u.at (top_place ts t.id)) (off_one u.id t.id (other_top u t ts apart.0 i)) ∙ place_of_top ts t apart.1 i

-- a unit stands before a place before which each of its members stands
pub unit_before : (ts : List Top) (r p : ℕ) → 0 < p → ((t : Top) → In t ts → t.root ≡ r → t.at < p) → unit_place ts r < p
unit_before [] r p pos each = pos
unit_before (u ∷ ts) r p pos each = by (u.root == r) refl (unit_before ts r p pos (λ t i. each t (inr i)))
  where
    larger : (m n : ℕ) → m < p → n < p → max m n < p
    larger m n a b = grind (arith, nat_tests)

    by : (b : Bool) → (u.root == r) ≡ b → unit_place ts r < p → cond b (max u.at (unit_place ts r)) (unit_place ts r) < p
    by true is ih = larger u.at (unit_place ts r) (each u (inl refl) (eqb-true u.root r is)) ih
    by false is ih = ih

-- and at no place before one of its members
pub unit_behind : (ts : List Top) (t : Top) → In t ts → t.at ≤ unit_place ts t.root
unit_behind [] t i = absurd i
unit_behind (u ∷ ts) t (inl is) = subst (λ b. t.at ≤ cond b (max u.at (unit_place ts t.root)) (unit_place ts t.root))
    (sym (eq-eqb u.root t.root (ap (λ (z : Top). z.root) is))) (first t.at u.at (unit_place ts t.root) (ap (λ (z : Top). z.at) is))
  where
    first : (k m n : ℕ) → m ≡ k → k ≤ max m n
    first k m n e = grind (arith, nat_tests)
unit_behind (u ∷ ts) t (inr i) = by (u.root == t.root) (unit_behind ts t i)
  where
    second : (k m n : ℕ) → k ≤ n → k ≤ max m n
    second k m n e = grind (arith, nat_tests)

    by : (b : Bool) → t.at ≤ unit_place ts t.root → t.at ≤ cond b (max u.at (unit_place ts t.root)) (unit_place ts t.root)
    by true e = second t.at u.at (unit_place ts t.root) e
    by false e = e

pub lex_first : (k m p q : ℕ) → k < m → lex (k ∷ p ∷ []) (m ∷ q ∷ []) ≡ true
lex_first k m p q l = ap (λ b. cond b true ((k == m) && lex (p ∷ []) (q ∷ []))) (yes k m l)
  where
    yes : (a b : ℕ) → a < b → nat_lt a b ≡ true
    yes a b e = grind (arith, nat_tests)

pub lex_second : (k m p q : ℕ) → k ≡ m → p < q → lex (k ∷ p ∷ []) (m ∷ q ∷ []) ≡ true
lex_second k m p q e l = (λ i. cond (no k m e i) true (eq-eqb k m e i && cond (yes p q l i) true ((p == q) && false)))
  where
    no : (a b : ℕ) → a ≡ b → nat_lt a b ≡ false
    no a b f = grind (arith, nat_tests)

    yes : (a b : ℕ) → a < b → nat_lt a b ≡ true
    yes a b f = grind (arith, nat_tests)

-- the first commit of an action
pub first_commit : (es : List (Placed ℕ)) (id : ℕ) → has_end es id ≡ true →
    (e : Placed ℕ) × In e es × (e.it ≡ id) × (commit_place es id ≡ e.at)
first_commit [] id is = absurd (cc is)
first_commit (e ∷ es) id is = by (e.it == id) refl is (first_commit es id)
  where
    by : (b : Bool) → (e.it == id) ≡ b → (b || has_end es id) ≡ true → (has_end es id ≡ true → (f : Placed ℕ) × In f es × (f.it ≡ id)
        × (commit_place es id ≡ f.at)) → (f : Placed ℕ) × In f (e ∷ es) × (f.it ≡ id) × (cond b e.at (commit_place es id) ≡ f.at)
    by true same any ih = (e, inl refl, eqb-true e.it id same, refl)
    by false other any ih = let r = ih any in (r.0, inr r.1, r.2, r.3)

-- ---- tops of the journal

-- A listed top: its action, its root, and the call of its commit.
pub record IsTopOf (lines : List Line) (t : Top) : Type 0 where
  pub act : Act
  pub there : In act (acts lines)
  pub number : act.id ≡ t.id
  pub kind : is_top act.kind ≡ true
  pub done : IsDone lines act
  pub root_is : t.root ≡ root_or act.id (root_in (path_of lines act))
  pub call : In (record { at = t.at; it = act.id }) (called lines)

pub top_plain : (k : Kind) → is_top k ≡ true → is_serial k ≡ false
top_plain kind.Nested e = absurd (cc e)
top_plain kind.Serial e = absurd (cc e)
top_plain kind.Top e = refl
top_plain kind.Constituent e = refl
top_plain kind.Independent e = refl

-- where all below the top are nested, and the last of the path isn't, there is none
none_below : (before : List Act) (a : Act) → AllByRecursion (λ (y : Act). y.kind ≡ kind.Nested) (chain_in (before ++ a ∷ [])) →
    a.kind ≢ kind.Nested → chain_in (before ++ a ∷ []) ≡ []
none_below [] a all upper = by (is_serial a.kind)
  where
    by : (s : Bool) → ◌≡◌ {A = List Act} (cond s (behind_first []) []) []
    by true = refl
    by false = refl
none_below (r ∷ []) a all upper = by (is_serial r.kind) all
  where
    by : (s : Bool) → AllByRecursion (λ (y : Act). y.kind ≡ kind.Nested) (cond s (behind_first (a ∷ [])) (a ∷ [])) →
        cond s (behind_first (a ∷ [])) (a ∷ []) ≡ []
    by true each = refl
    by false each = absurd (upper each.0)
none_below (r ∷ b ∷ rest) a all upper = by (is_serial r.kind) all
  where
    last_nested : (xs : List Act) → AllByRecursion (λ (y : Act). y.kind ≡ kind.Nested) (xs ++ a ∷ []) → a.kind ≡ kind.Nested
    last_nested [] each = each.0
    last_nested (x ∷ xs) each = last_nested xs each.1

    by : (s : Bool) → AllByRecursion (λ (y : Act). y.kind ≡ kind.Nested) (cond s (rest ++ a ∷ []) (b ∷ (rest ++ a ∷ []))) →
        cond s (rest ++ a ∷ []) (b ∷ (rest ++ a ∷ [])) ≡ []
    by true each = absurd (upper (last_nested rest each))
    by false each = absurd (upper (last_nested rest each.1))

module _ (lines : List Line) (right : AreRight new_book lines) where
  sound : AreSound (acts lines)
  sound = its_sound lines right

  pub listed : AreItsTops lines
  listed = let s = is_sound lines right in s.listed

  -- the top of a top's path is itself
  pub own : (a : Act) → In a (acts lines) → is_top a.kind ≡ true → top_in (path_of lines a) ≡ Some a
  own a i is =
      let t = own_top (acts lines) sound.distinct sound.formed a i (top_plain a.kind is) in
      ⊎_elim (λ same. t.1 ∙ ap Some same) (λ j. never is (chain_nested lines right a a j).0)
      (parts (path_of lines a) t.0 a t.1 (own_there (acts lines) sound.distinct sound.formed a i) (top_plain a.kind is))

  -- nothing is below the top on the path of an action that isn't nested
  pub upper_chain : (a : Act) → In a (acts lines) → a.kind ≢ kind.Nested → chain_in (path_of lines a) ≡ []
  upper_chain a i upper =
      let e = (well (acts lines) sound.formed a.label).1 a (found_by (acts lines) sound.distinct a i) in
      ap chain_in e.are ∙ none_below e.before a (subst (λ q. AllByRecursion (λ (y : Act). y.kind ≡ kind.Nested) (chain_in q)) e.are
      (let s = shape_of lines right a in s.below)) upper

  pub top_item : (t : Top) → In t (tops lines) → IsTopOf lines t
  top_item t i =
      let f = in_filter_map (top_of (committed lines) (recovered lines)) t (committings lines) i in
      let c = call_top lines right f.0 f.1 in
      let is : top_in f.0.it ≡ Some c.act = ap top_in c.path_is ∙ own c.act c.there c.top in
      by f.0 c is (is_committed (committed lines) (recovered lines) c.act) refl
      (sym (ap (top_by (committed lines) (recovered lines) f.0) is) ∙ f.2)
    where
      by : (m : Placed (List Act)) (c : IsCallOfTop (acts lines) (called lines) m) → top_in m.it ≡ Some c.act → (b : Bool) →
          is_committed (committed lines) (recovered lines) c.act ≡ b
          → cond b (Some (record { id = c.act.id; root = root_or c.act.id (root_in m.it); at = m.at })) None ≡ Some t → IsTopOf lines t
      by m c is true done e =
          let same = some_is (record { id = c.act.id; root = root_or c.act.id (root_in m.it); at = m.at }) t e in record {
            act = c.act;
            there = c.there;
            number = ap (λ (z : Top). z.id) same;
            kind = c.top;
            done = done;
            root_is = sym (ap (λ (z : Top). z.root) same) ∙ ap (λ p. root_or c.act.id (root_in p)) c.path_is;
            call = subst (λ n. In (record { at = n; it = c.act.id }) (called lines)) (ap (λ (z : Top). z.at) same) c.number;
          }
      by m c is false done e = absurd (cc e)

  pub top_for : (a : Act) → In a (acts lines) → is_top a.kind ≡ true → IsDone lines a → (t : Top) × In t (tops lines) × (t.id ≡ a.id)
  top_for a i top done = let r = listed.all a (in_to a (acts lines) i) top done in (r.0, in_from r.0 (tops lines) r.1, r.2)

  pub same_number : (a b : Act) → In a (acts lines) → In b (acts lines) → a.id ≡ b.id → a ≡ b
  same_number a b i j e = one_act (acts lines) sound.distinct a b i j
      (uid_is a.uid b.uid (sym (apart_acts (acts lines) sound.distinct a b i j) ∙ eq-eqb a.id b.id e))

  -- the root of a path
  pub head_of : (a : Act) → In a (acts lines) → (h : Act) × In h (path_of lines a) × (root_in (path_of lines a) ≡ Some h.id)
  head_of a i = by (path_of lines a) (own_there (acts lines) sound.distinct sound.formed a i)
    where
      by : (p : List Act) → In a p → (h : Act) × In h p × (root_in p ≡ Some h.id)
      by [] j = absurd j
      by (h ∷ rest) j = (h, inl refl, refl)

-- ---- an object

module _ (values : Values) (lines : List Line) (right : AreRight new_book lines) (x : ℕ) (S : State) (tied : Tie values lines x S) where
  pub in_order : IsInOrder S
  in_order = is_in_order (run_keeps tied.run (start_holds (tied.code (values x) tied.writer)))
      (roots_low tied.run (start_low (tied.code (values x) tied.writer)))

  nested : IsNested S
  nested = is_nested (run_keeps tied.run (start_holds (tied.code (values x) tied.writer)))
      (roots_low tied.run (start_low (tied.code (values x) tied.writer)))

  timely : AreTimely S.calls S.now S.action
  timely = run_timely tied.run (start_timely (tied.code (values x) tied.writer))

  -- ---- tops in the machine

  pub stage_of_top : (t : Top) (i : IsTopOf lines t) → (S.action (tied.act i.act.uid)).stage ≡ 3
  stage_of_top t i = let s = tied.actions i.act (in_to i.act (acts lines) i.there) (top_plain i.act.kind i.kind) in s.done i.done

  pub place_in : (t : Top) (i : IsTopOf lines t) → (S.action (tied.act i.act.uid)).place ≡ t.at + 1
  place_in t i = let s = tied.actions i.act (in_to i.act (acts lines) i.there) (top_plain i.act.kind i.kind) in
      s.place (record { at = t.at; it = i.act.id }) (in_to _ (called lines) i.call) refl

  pub is_top_in : (a : Act) → In a (acts lines) → is_top a.kind ≡ true → machine.is_top (tied.act a.uid) ≡ true
  is_top_in a i top = let p = tied.places in p.tops a (in_to a (acts lines) i) ∙ top

  -- two of one root have one unit
  pub one_unit : (t u : Top) (i : IsTopOf lines t) (j : IsTopOf lines u) → t.root ≡ u.root →
      root (tied.act i.act.uid) ≡ root (tied.act j.act.uid)
  one_unit t u i j e =
      let g = head_of lines right i.act i.there in
      let h = head_of lines right j.act j.there in
      let same : g.0.id ≡ h.0.id = sym (i.root_is ∙ ap (root_or i.act.id) g.2) ∙ e ∙ j.root_is ∙ ap (root_or j.act.id) h.2 in
      let heads = same_number lines right g.0 h.0 (member values lines right x S tied i.act g.0 g.1)
      (member values lines right x S tied j.act h.0 h.1) same in
      on_root (tied.act i.act.uid) (tied.act g.0.uid) (on_it values lines right x S tied i.act g.0 i.there g.1)
      ∙ ap (λ (z : Act). root (tied.act z.uid)) heads
      ∙ sym (on_root (tied.act j.act.uid) (tied.act h.0.uid) (on_it values lines right x S tied j.act h.0 j.there h.1))

  -- and two of one unit one root
  pub one_root : (t u : Top) (i : IsTopOf lines t) (j : IsTopOf lines u) → root (tied.act i.act.uid) ≡ root (tied.act j.act.uid) →
      t.root ≡ u.root
  one_root t u i j e =
      let p = tied.places in
      let g = head_of lines right i.act i.there in
      let same = p.units i.act j.act (in_to i.act (acts lines) i.there) (in_to j.act (acts lines) j.there) e in
      i.root_is ∙ ap (root_or i.act.id) g.2 ∙ sym (j.root_is ∙ ap (root_or j.act.id) (sym same ∙ g.2))

  -- ---- surviving calls in the machine

  -- A surviving call of a committed top: its item, and the machine's call; and its top.
  pub record IsShown (k : Call) : Type 0 where
    pub item : Placed Said
    pub item_there : In item (said lines)
    pub item_object : item.it.x ≡ x
    pub call_object : k.x ≡ x
    pub call : state.Call
    pub there : machine.In call S.calls
    pub is : IsCallOf tied.act tied.code item call
    pub made_by : IsMade values lines right x S tied item call
    pub kept_as : IsKeptSo values lines right x S tied item call made_by k
    pub survives : Survives S call.act
    pub line : call.line ≡ k.at + 1
    pub write : call.write ≡ writes k.op
    pub number : Top
    pub listed_top : In number (tops lines)
    pub top_of_it : IsTopOf lines number
    pub same_top : top_of_it.act ≡ made_by.top
    pub top_number : k.top ≡ number.id
    pub chain : k.chain ≡ ids (chain_in (path_of lines made_by.maker))

  pub find_call : (ss : List (Placed Said)) (cs : List state.Call) → AreCallsOf tied.act tied.code ss cs → (s : Placed Said) → In s ss →
      (c : state.Call) × machine.In c cs × IsCallOf tied.act tied.code s c
  find_call [] cs are s i = absurd i
  find_call (t ∷ ss) [] are s i = absurd are
  find_call (t ∷ ss) (c ∷ cs) are s (inl same) = (c, inl refl, subst (λ (z : Placed Said). IsCallOf tied.act tied.code z c) same are.0)
  find_call (t ∷ ss) (c ∷ cs) are s (inr i) = let r = find_call ss cs are.1 s i in (r.0, inr r.1, r.2)

  pub shown : (k : Call) → In k (committed_calls lines) → k.x ≡ x → IsShown k
  shown k i is =
      let f = in_filter_map (kept (committed lines) (recovered lines)) k (said lines) i in
      let shape = kept_shape values lines x f.0 k f.2 in
      let c = find_call (said_on x lines) S.calls tied.calls f.0 (to_object x lines f.0 f.1 (sym shape.1 ∙ is)) in
      let m = made values lines right x S tied f.0 c.0 f.1 c.1 c.2 in
      let so = kept_so values lines right x S tied f.0 c.0 m k f.2 in
      let top = let h = shape_of lines right m.maker in h.tops m.top m.top_is in
      let t = top_for lines right m.top m.top_there top so.top_done in
      let item = top_item lines right t.0 t.1 in
      let said_so = c.2 in
      record {
        item = f.0;
        item_there = f.1;
        item_object = sym shape.1 ∙ is;
        call_object = is;
        call = c.0;
        there = c.1;
        is = c.2;
        made_by = m;
        kept_as = so;
        survives = kept_survives values lines right x S tied f.0 c.0 m k f.2;
        line = said_so.line ∙ ap (λ n. n + 1) (sym shape.0);
        write = said_so.write ∙ ap writes (sym shape.2);
        number = t.0;
        listed_top = t.1;
        top_of_it = item;
        same_top = same_number lines right item.act m.top item.there m.top_there (item.number ∙ t.2);
        top_number = sym (ap (λ (z : Call). z.top) so.same) ∙ sym t.2;
        chain = sym (ap (λ (z : Call). z.chain) so.same) ∙ ap (λ p. ids (chain_in p)) m.path_is;
      }

  module _ (k : Call) (s : IsShown k) where
    -- the top in the machine
    pub its_top : top s.call.act ≡ tied.act s.top_of_it.act.uid
    its_top =
        let m = s.made_by in
        let t = s.top_of_it in
        topmost s.call.act (tied.act t.act.uid) (is_top_in t.act t.there t.kind)
        (ap (λ a. on a (tied.act t.act.uid)) m.caller ∙ on_it values lines right x S tied m.maker t.act m.there
        (subst (λ z. In z (path_of lines m.maker)) (sym s.same_top) (top_on (path_of lines m.maker) m.top m.top_is)))

    pub its_root : root s.call.act ≡ root (tied.act s.top_of_it.act.uid)
    its_root = sym (top_root s.call.act) ∙ ap root its_top

    -- its line stands before the call of its top's commit
    pub before_top : k.at < s.number.at
    before_top =
        let i = s.top_of_it in
        let stage = stage_of_top s.number i in
        let l = timely.places s.call (tied.act i.act.uid) s.there (subst (λ a. on s.call.act a ≡ true) its_top (on_top s.call.act))
        (is_top_in i.act i.there i.kind) (omega (arith, stage)) (omega (arith, stage)) in
        let p = place_in s.number i in
        let line = s.line in
        omega (arith, l, p, line)

    pub key_is : serial_key (tops lines) k.top ≡ unit_place (tops lines) s.number.root ∷ s.number.at ∷ []
    key_is =
        let apart = let l = listed lines right in l.apart in
        ap (serial_key (tops lines)) s.top_number ∙ (λ i. unit_place (tops lines) (root_of_top (tops lines) s.number apart s.listed_top i)
        ∷ place_of_top (tops lines) s.number apart s.listed_top i ∷ [])

  pub conflict_of : (c d : Call) (s : IsShown c) (t : IsShown d) → c.at < d.at → is_conflict c d ≡ true → Conflicting S s.call t.call
  conflict_of c d s t less conflict = record {
    first = s.there;
    second = t.there;
    line = (let l = s.line in let m = t.line in omega (arith, less, l, m));
    write = by (writes c.op) (writes d.op) s.write t.write (and_parts (c.x == d.x) (writes c.op || writes d.op) conflict).1;
    first_survives = s.survives;
    second_survives = t.survives;
  }
    where
      by : (a b : Bool) → s.call.write ≡ a → t.call.write ≡ b → (a || b) ≡ true → (s.call.write ≡ true) ⊎ (t.call.write ≡ true)
      by true b e f g = inl e
      by false b e f g = inr (f ∙ g)

  -- ---- order

  pub stands : (c d : Call) → In c (committed_calls lines) → In d (committed_calls lines) → c.x ≡ x → d.x ≡ x → StandInOrder lines c d
  stands c d i j cx dx less apart conflict = by (s.number.root == t.number.root) refl
    where
      s : IsShown c
      s = shown c i cx

      t : IsShown d
      t = shown d j dx

      both : Conflicting S s.call t.call
      both = conflict_of c d s t less conflict

      later : d.at < t.number.at
      later = before_top d t

      keys : lex (unit_place (tops lines) s.number.root ∷ s.number.at ∷ []) (unit_place (tops lines) t.number.root ∷ t.number.at ∷ [])
          ≡ true → serial_less (tops lines) c d ≡ true
      keys e = (λ i. lex (key_is c s i) (key_is d t i)) ∙ e

      by : (b : Bool) → (s.number.root == t.number.root) ≡ b → serial_less (tops lines) c d ≡ true
      by true same =
          let one = eqb-true s.number.root t.number.root same in
          let roots : root s.call.act ≡ root t.call.act = its_root c s ∙ one_unit s.number t.number s.top_of_it t.top_of_it one
          ∙ sym (its_root d t) in
          let differ : top s.call.act ≢ top t.call.act = λ e.
          let p = tied.places in
          let a = s.top_of_it in
          let b = t.top_of_it in
          let uid = p.one a.act b.act (in_to a.act (acts lines) a.there) (in_to b.act (acts lines) b.there)
          (sym (its_top c s) ∙ e ∙ its_top d t) in
          let act = one_act (acts lines) (let z = sound lines right in z.distinct) a.act b.act a.there b.there uid in
          never (eq-eqb c.top d.top (s.top_number ∙ sym a.number ∙ ap (λ (z : Act). z.id) act ∙ b.number ∙ sym t.top_number)) apart in
          let l = in_order.tops s.call t.call both roots differ in
          let place : (S.action (top s.call.act)).place ≡ s.number.at + 1 = ap (λ a. (S.action a).place) (its_top c s)
          ∙ place_in s.number s.top_of_it in
          let line = t.line in
          let far : s.number.at < t.number.at = omega (arith, l, place, line, later) in
          keys (lex_second (unit_place (tops lines) s.number.root) (unit_place (tops lines) t.number.root) s.number.at t.number.at
          (ap (unit_place (tops lines)) one) far)
      by false other =
          let units : root s.call.act ≢ root t.call.act = λ e. never (eq-eqb s.number.root t.number.root
          (one_root s.number t.number s.top_of_it t.top_of_it (sym (its_root c s) ∙ e ∙ its_root d t))) other in
          let before : unit_place (tops lines) s.number.root < d.at = unit_before (tops lines) s.number.root d.at (omega (arith, less))
          (λ u k is.
          let a = top_item lines right u k in
          let l = in_order.units s.call t.call (tied.act a.act.uid) both units (is_top_in a.act a.there a.kind, stage_of_top u a)
          (one_unit u s.number a s.top_of_it is ∙ sym (its_root c s)) in
          let place = place_in u a in
          let line = t.line in
          omega (arith, l, place, line)) in
          let behind = unit_behind (tops lines) t.number t.listed_top in
          keys (lex_first (unit_place (tops lines) s.number.root) (unit_place (tops lines) t.number.root) s.number.at t.number.at
          (omega (arith, before, later, behind)))

  pub called_first : (c d : Call) → In c (committed_calls lines) → In d (committed_calls lines) → c.x ≡ x → d.x ≡ x →
      IsCalledFirst lines c d
  called_first c d i j cx dx less apart conflict =
      let apart_tops = let l = listed lines right in l.apart in
      let at : top_place (tops lines) c.top ≡ s.number.at = ap (top_place (tops lines)) s.top_number
      ∙ place_of_top (tops lines) s.number apart_tops s.listed_top in
      let l = ⊎_elim (λ (same : (s.number.root == t.number.root) ≡ true). in_order.tops s.call t.call both (roots (eqb-true s.number.root
      t.number.root same)) differ) (λ (other : (s.number.root == t.number.root) ≡ false). in_order.units s.call t.call (top s.call.act)
      both (λ e. never (eq-eqb s.number.root t.number.root (one_root s.number t.number s.top_of_it t.top_of_it (sym (its_root c s) ∙ e
      ∙ its_root d t))) other) (committed_top) (top_root s.call.act)) (bool_cases (s.number.root == t.number.root)) in
      let place : (S.action (top s.call.act)).place ≡ s.number.at + 1 = ap (λ a. (S.action a).place) (its_top c s)
      ∙ place_in s.number s.top_of_it in
      let line = t.line in
      omega (arith, at, l, place, line)
    where
      s : IsShown c
      s = shown c i cx

      t : IsShown d
      t = shown d j dx

      both : Conflicting S s.call t.call
      both = conflict_of c d s t less conflict

      bool_cases : (b : Bool) → (b ≡ true) ⊎ (b ≡ false)
      bool_cases true = inl refl
      bool_cases false = inr refl

      committed_top : IsCommitted S (top s.call.act)
      committed_top = let a = s.top_of_it in
          subst (IsCommitted S) (sym (its_top c s)) (is_top_in a.act a.there a.kind, stage_of_top s.number a)

      roots : s.number.root ≡ t.number.root → root s.call.act ≡ root t.call.act
      roots e = its_root c s ∙ one_unit s.number t.number s.top_of_it t.top_of_it e ∙ sym (its_root d t)

      differ : top s.call.act ≢ top t.call.act
      differ e =
          let p = tied.places in
          let a = s.top_of_it in
          let b = t.top_of_it in
          let uid = p.one a.act b.act (in_to a.act (acts lines) a.there) (in_to b.act (acts lines) b.there)
          (sym (its_top c s) ∙ e ∙ its_top d t) in
          let act = one_act (acts lines) (let z = sound lines right in z.distinct) a.act b.act a.there b.there uid in
          never (eq-eqb c.top d.top (s.top_number ∙ sym a.number ∙ ap (λ (z : Act). z.id) act ∙ b.number ∙ sym t.top_number)) apart

  -- all of the first call's unit was called before the second, of another unit
  pub unit_first : (c d : Call) → In c (committed_calls lines) → In d (committed_calls lines) → c.x ≡ x → d.x ≡ x → c.at < d.at →
      is_conflict c d ≡ true → root_of (tops lines) c.top ≢ root_of (tops lines) d.top →
      unit_place (tops lines) (root_of (tops lines) c.top) < d.at
  unit_first c d i j cx dx less conflict other = subst (λ r. unit_place (tops lines) r < d.at) (sym (number_root c s)) before
    where
      s : IsShown c
      s = shown c i cx

      t : IsShown d
      t = shown d j dx

      both : Conflicting S s.call t.call
      both = conflict_of c d s t less conflict

      number_root : (k : Call) (w : IsShown k) → root_of (tops lines) k.top ≡ w.number.root
      number_root k w =
          ap (root_of (tops lines)) w.top_number ∙ root_of_top (tops lines) w.number (let l = listed lines right in l.apart) w.listed_top

      units : root s.call.act ≢ root t.call.act
      units e = other (number_root c s ∙ one_root s.number t.number s.top_of_it t.top_of_it (sym (its_root c s) ∙ e ∙ its_root d t)
          ∙ sym (number_root d t))

      before : unit_place (tops lines) s.number.root < d.at
      before = unit_before (tops lines) s.number.root d.at (omega (arith, less)) (λ u k is.
          let a = top_item lines right u k in
          let l = in_order.units s.call t.call (tied.act a.act.uid) both units (is_top_in a.act a.there a.kind, stage_of_top u a)
          (one_unit u s.number a s.top_of_it is ∙ sym (its_root c s)) in
          let place = place_in u a in
          let line = t.line in
          omega (arith, l, place, line))

  -- ---- nested actions

  in_ids : (b : Act) (p : List Act) → In b p → is_among (ids p) b.id ≡ true
  in_ids b [] i = absurd i
  in_ids b (a ∷ p) (inl is) = ap (λ t. t || is_among (ids p) b.id) (eq-eqb a.id b.id (ap (λ (z : Act). z.id) is))
  in_ids b (a ∷ p) (inr i) = by (a.id == b.id) (in_ids b p i)
    where
      by : (t : Bool) → is_among (ids p) b.id ≡ true → (t || is_among (ids p) b.id) ≡ true
      by true e = refl
      by false e = e

  all_ids : (P : ℕ → Type 0) (p : List Act) → ((b : Act) → In b p → P b.id) → AllByRecursion P (ids p)
  all_ids P [] each = tt
  all_ids P (b ∷ p) each = (each b (inl refl), all_ids P p (λ c i. each c (inr i)))

  -- an action below the top of a surviving call: where it stands, and its commit
  pub record IsBelow (k : Call) (s : IsShown k) (b : Act) : Type 0 where
    pub there : In b (acts lines)
    pub plain : is_serial b.kind ≡ false
    pub nests : is_top b.kind ≡ false
    pub on_act : on s.call.act (tied.act b.uid) ≡ true
    pub ends : has_end (committed lines) b.id ≡ true
    pub stage : (S.action (tied.act b.uid)).stage ≡ 3
    pub done : (S.action (tied.act b.uid)).done ≡ commit_place (committed lines) b.id + 1

  pub below : (k : Call) (s : IsShown k) (b : Act) → In b (chain_in (path_of lines (let m = s.made_by in m.maker))) → IsBelow k s b
  below k s b i =
      let m = s.made_by in
      let q = s.kept_as in
      let j = chain_on (path_of lines m.maker) b i in
      let there = member values lines right x S tied m.maker b j in
      let kinds = chain_nested lines right m.maker b i in
      let ends = q.below b i in
      let f = first_commit (committed lines) b.id ends in
      let a = tied.actions b (in_to b (acts lines) there) kinds.1 in
      let on_act : on s.call.act (tied.act b.uid) ≡ true = ap (λ c. on c (tied.act b.uid)) m.caller
      ∙ on_it values lines right x S tied m.maker b m.there j in
      record {
        there = there;
        plain = kinds.1;
        nests = kinds.0;
        on_act = on_act;
        ends = ends;
        stage = s.survives (tied.act b.uid) on_act (acts_are values lines right x S tied b there kinds.1);
        done = a.commit f.0 (in_to f.0 (committed lines) f.1) f.2 ∙ ap (λ n. n + 1) (sym f.3);
      }

  pub is_freed : (c d : Call) → In c (committed_calls lines) → In d (committed_calls lines) → c.x ≡ x → d.x ≡ x →
      IsFreedFor (committed lines) c d
  is_freed c d i j cx dx less same conflict =
      subst (AllByRecursion (λ a. is_among d.chain a ≡ false → commit_place (committed lines) a < d.at)) (sym s.chain)
      (all_ids (λ a. is_among d.chain a ≡ false → commit_place (committed lines) a < d.at) (chain_in (path_of lines sm.maker)) one)
    where
      s : IsShown c
      s = shown c i cx

      t : IsShown d
      t = shown d j dx

      sm : IsMade values lines right x S tied s.item s.call
      sm = s.made_by

      tm : IsMade values lines right x S tied t.item t.call
      tm = t.made_by

      tops_same : s.top_of_it.act ≡ t.top_of_it.act
      tops_same = let a = s.top_of_it in let b = t.top_of_it in same_number lines right a.act b.act a.there b.there
          (a.number ∙ sym s.top_number ∙ eqb-true c.top d.top same ∙ t.top_number ∙ sym b.number)

      roots : root s.call.act ≡ root t.call.act
      roots = its_root c s ∙ ap (λ (z : Act). root (tied.act z.uid)) tops_same ∙ sym (its_root d t)

      one : (b : Act) → In b (chain_in (path_of lines sm.maker)) → is_among d.chain b.id ≡ false →
          commit_place (committed lines) b.id < d.at
      one b k off =
          let w = below c s b k in
          let passed = nested s.call t.call (conflict_of c d s t less conflict) roots (tied.act b.uid) w.on_act
          (by (on t.call.act (tied.act b.uid)) refl) in
          let l = passed.1 in
          let done = w.done in
          let line = t.line in
          omega (arith, l, done, line)
        where
          by : (v : Bool) → on t.call.act (tied.act b.uid) ≡ v → v ≡ false
          by false is = refl
          by true is =
              let w = below c s b k in
              let h = from_on values lines right x S tied tm.maker b tm.there w.there
              (ap (λ a. on a (tied.act b.uid)) (sym tm.caller) ∙ is) in
              ⊎_elim
              (λ top. let u = t.top_of_it in never (ap (λ (z : Act). is_top z.kind) (sym (t.same_top ∙ top)) ∙ u.kind) w.nests)
              (λ chain. never (ap (λ ns. is_among ns b.id) t.chain ∙ in_ids b (chain_in (path_of lines tm.maker)) chain) off)
              (parts (path_of lines tm.maker) tm.top b tm.top_is h w.plain)

  pub in_time : (c : Call) → In c (committed_calls lines) → c.x ≡ x → AllByRecursion (λ a. c.at < commit_place (committed lines) a) c.chain
  in_time c i cx = subst (AllByRecursion (λ a. c.at < commit_place (committed lines) a)) (sym s.chain)
      (all_ids (λ a. c.at < commit_place (committed lines) a) (chain_in (path_of lines (let m = s.made_by in m.maker))) one)
    where
      s : IsShown c
      s = shown c i cx

      one : (b : Act) → In b (chain_in (path_of lines (let m = s.made_by in m.maker))) → c.at < commit_place (committed lines) b.id
      one b k =
          let w = below c s b k in
          let l = timely.commits s.call (tied.act b.uid) s.there w.on_act (acts_are values lines right x S tied b w.there w.plain)
          w.stage in
          let done = w.done in
          let line = s.line in
          omega (arith, l, done, line)

-- ---- all objects

module _ (values : Values) (lines : List Line) (right : AreRight new_book lines) (tied : Ties values lines) where
  of_object : (c : Call) → In c (committed_calls lines) → (S : State) × Tie values lines c.x S
  of_object c i =
      let f = in_filter_map (kept (committed lines) (recovered lines)) c (said lines) i in
      let k = kept_shape values lines c.x f.0 c f.2 in
      tied c.x (any_said c.x f.0 (said lines) f.1 (sym k.1))

  each : (P : Call → Type 0) (cs : List Call) → ((c : Call) → In c cs → P c) → AllByRecursion P cs
  each P [] f = tt
  each P (c ∷ cs) f = (f c (inl refl), each P cs (λ d i. f d (inr i)))

  of_two : (R : Call → Call → Type 0) → ((c d : Call) → In c (committed_calls lines) → In d (committed_calls lines) → R c d) →
      OfEachTwo R (committed_calls lines)
  of_two R f = each (λ c. AllByRecursion (R c) (committed_calls lines)) (committed_calls lines)
      (λ c i. each (R c) (committed_calls lines) (λ d j. f c d i j))

  one_object : (c d : Call) → is_conflict c d ≡ true → d.x ≡ c.x
  one_object c d e = sym (eqb-true c.x d.x (and_parts (c.x == d.x) (writes c.op || writes d.op) e).0)

  pub all_in_order : InOrder lines
  all_in_order = of_two (StandInOrder lines) (λ c d i j less apart conflict. let t = of_object c i in
      stands values lines right c.x t.0 t.1 c d i j refl (one_object c d conflict) less apart conflict)

  pub all_freed : FreedInOrder lines
  all_freed = of_two (IsFreedFor (committed lines)) (λ c d i j less same conflict. let t = of_object c i in
      is_freed values lines right c.x t.0 t.1 c d i j refl (one_object c d conflict) less same conflict)

  pub all_in_time : AnsweredInTime lines
  all_in_time = each (λ (c : Call). AllByRecursion (λ a. c.at < commit_place (committed lines) a) c.chain) (committed_calls lines)
      (λ c i. let t = of_object c i in in_time values lines right c.x t.0 t.1 c i refl)

  pub all_called_first : CommitsComeFirst lines
  all_called_first = of_two (IsCalledFirst lines) (λ c d i j less apart conflict. let t = of_object c i in
      called_first values lines right c.x t.0 t.1 c d i j refl (one_object c d conflict) less apart conflict)

  -- a call stands before the commit call of its top
  pub call_before : (c : Call) → In c (committed_calls lines) → (t : Top) × In t (tops lines) × (c.top ≡ t.id) × (c.at < t.at)
  call_before c i =
      let o = of_object c i in
      let s = shown values lines right c.x o.0 o.1 c i refl in
      (s.number, s.listed_top, s.top_number, before_top values lines right c.x o.0 o.1 c s)

  -- so the commit of each top whose calls count was called
  pub all_called : AreCalled lines
  all_called = each (λ c. is_called (tops lines) c.top ≡ true) (committed_calls lines) (λ c i. let b = call_before c i in
      among (tops lines) b.0 c.top b.1 b.2)
    where
      among : (ts : List Top) (t : Top) (id : ℕ) → In t ts → id ≡ t.id → is_called ts id ≡ true
      among [] t id i same = absurd i
      among (u ∷ ts) t id (inl is) same = or_left (u.id == id) (is_called ts id) (eq-eqb u.id id (ap (λ (z : Top). z.id) is ∙ sym same))
      among (u ∷ ts) t id (inr i) same = or_right (u.id == id) (is_called ts id) (among ts t id i same)

  pub all_unit_first : (c d : Call) → In c (committed_calls lines) → In d (committed_calls lines) → c.at < d.at → is_conflict c d ≡ true →
      root_of (tops lines) c.top ≢ root_of (tops lines) d.top → unit_place (tops lines) (root_of (tops lines) c.top) < d.at
  all_unit_first c d i j less conflict other = let t = of_object c i in
      unit_first values lines right c.x t.0 t.1 c d i j refl (one_object c d conflict) less conflict other
