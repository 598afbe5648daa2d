-- The actions of one root are as many in the journal as in the tree of their coordinator.
use Rattle.arj_law_parts.proofs.Words
use Words.{◌≡◌, ◌∙◌, ◌≤◌, ◌+◌, ◌==◌, ◌&&◌, ◌||◌, ℕ, zero, suc, Bool, true, false, cond, List, [], ◌∷◌, ◌++◌, filter, length, refl, sym}
use Words.{ap, subst, arith, nat_tests, nat_le, Option, Some, None, inl, inr, In, slice_get, eqb-true, uid_eq, uid_is, uid_same, bytes_eq}
use Words.{first_uid, is_on, Uid, Kind, Header, World, Node, Parts, Branch, at_place, branch_of, is_own, root_of, uid_at}
use Words.kind
use Rattle.arj_law_runs.proofs.Terms.{Act, act_in, acts, path, path_in, uids, upwards, AreDistinct, Holds, has_act, found_by, own_is}
use Rattle.arj_law_runs.proofs.follow.Halts.{KnowsAll}
use Rattle.arj_law_runs.proofs.follow.Labeled.{KnowsFinds}
use Rattle.arj_law_runs.proofs.journal.{Books.never, Models.among, Models.apart_acts, Ties.in_named}
use Rattle.arj_law_cause.proofs.follow.causes.{Above.ends_with, Counting.count_in, Counting.is_of, Standing.apart, Standing.below_one}
use Rattle.arj_law_cause.proofs.follow.causes.{Standing.IsOne, Standing.one_of, Standing.own_number, Standing.root_is_own}
use Rattle.arj_model.specs.Actions.{root_in}
use Rattle.arj_model.specs.Refusals.{is_root}

-- ---- lists

pub filter_same : {A : Type 0} (p q : A → Bool) (xs : List A) → ((x : A) → In x xs → p x ≡ q x) → filter p xs ≡ filter q xs
filter_same p q [] same = refl
filter_same p q (x ∷ xs) same = by (p x) (q x) (same x (inl refl)) (filter_same p q xs (λ y i. same y (inr i)))
  where
    by : (a b : Bool) → a ≡ b → filter p xs ≡ filter q xs → cond a (x ∷ filter p xs) (filter p xs) ≡ cond b (x ∷ filter q xs) (filter q xs)
    by true true e rest = ap (λ ys. x ∷ ys) rest
    by false false e rest = rest
    by true false e rest = absurd (cc e)
    by false true e rest = absurd (cc e)

-- where two tests agree but on one action, which the second one leaves out
one_more : (p q : Act → Bool) (xs : List Act) → AreDistinct xs → (a : Act) → In a xs → q a ≡ false →
    ((x : Act) → In x xs → (x.uid ≡ a.uid → ⊥) → p x ≡ q x) → length (filter p xs) ≡ length (filter q xs) + cond (p a) 1 0
one_more p q [] distinct a i off same = absurd i
one_more p q (x ∷ xs) distinct a (inl is) off same =
    by (p x) (q x) (ap q is ∙ off) (p a) (ap p is) (filter_same p q xs (λ y i. same y (inr i) (apart y i)))
  where
    apart : (y : Act) → In y xs → y.uid ≡ a.uid → ⊥
    apart y i e = never (among xs y i) (ap (has_act xs) (e ∙ ap (λ (z : Act). z.uid) (sym is)) ∙ distinct.2)

    one : (n : ℕ) → suc n ≡ n + 1
    one n = omega arith

    none : (n : ℕ) → n ≡ n + 0
    none n = omega arith

    by : (b c : Bool) → c ≡ false → (d : Bool) → b ≡ d → filter p xs ≡ filter q xs →
        length (cond b (x ∷ filter p xs) (filter p xs)) ≡ length (cond c (x ∷ filter q xs) (filter q xs)) + cond d 1 0
    by true false e true f rest = ap suc (ap length rest) ∙ one (length (filter q xs))
    by false false e false f rest = ap length rest ∙ none (length (filter q xs))
    by true false e false f rest = absurd (cc f)
    by false false e true f rest = absurd (cc f)
    by b true e d f rest = absurd (cc e)
one_more p q (x ∷ xs) distinct a (inr i) off same =
    by (p x) (q x) (same x (inl refl) apart) (one_more p q xs distinct.3 a i off (λ y j. same y (inr j)))
  where
    apart : x.uid ≡ a.uid → ⊥
    apart e = never (among xs a i) (ap (has_act xs) (sym e) ∙ distinct.2)

    turn : (m n k : ℕ) → m ≡ n + k → suc m ≡ suc n + k
    turn m n k e = omega (arith, e)

    by : (b c : Bool) → b ≡ c → length (filter p xs) ≡ length (filter q xs) + cond (p a) 1 0 →
        length (cond b (x ∷ filter p xs) (filter p xs)) ≡ length (cond c (x ∷ filter q xs) (filter q xs)) + cond (p a) 1 0
    by true true e rest = turn (length (filter p xs)) (length (filter q xs)) (cond (p a) 1 0) rest
    by false false e rest = rest
    by true false e rest = absurd (cc e)
    by false true e rest = absurd (cc e)

-- ---- roots of paths

-- a path begins with an action of the journal, where it isn't empty
pub data First (xs : List Act) (us : List Act) : Type 0 where
  Nobody : us ≡ [] → First xs us
  Begins : (r : Act) (rest : List Act) → In r xs → us ≡ r ∷ rest → First xs us

first_in : (xs : List Act) (l : List ℕ) → First xs (path xs l)
first_in [] l = Nobody refl
first_in (x ∷ xs) l = by (λ m. first_in xs m) (bytes_eq x.label l)
  where
    up : ((m : List ℕ) → First xs (path xs m)) → (o : Option (List ℕ)) (k : Kind) → First xs (upwards o k (path xs))
    up rest None k = Nobody refl
    up rest (Some p) kind.Independent = Nobody refl
    up rest (Some p) kind.Top = rest p
    up rest (Some p) kind.Serial = rest p
    up rest (Some p) kind.Nested = rest p
    up rest (Some p) kind.Constituent = rest p

    new : First xs (upwards x.parent x.kind (path xs)) → First (x ∷ xs) (path_in xs x)
    new (Nobody is) = Begins x [] (inl refl) (ap (λ us. us ++ x ∷ []) is)
    new (Begins r rest i is) = Begins r (rest ++ x ∷ []) (inr i) (ap (λ us. us ++ x ∷ []) is)

    old : First xs (path xs l) → First (x ∷ xs) (path xs l)
    old (Nobody is) = Nobody is
    old (Begins r rest i is) = Begins r rest (inr i) is

    by : ((m : List ℕ) → First xs (path xs m)) → (b : Bool) → First (x ∷ xs) (cond b (path_in xs x) (path xs l))
    by rest true = new (up rest x.parent x.kind)
    by rest false = old (rest l)

-- who is found has a root
pub root_there : (xs : List Act) (l : List ℕ) (s : Act) → act_in xs l ≡ Some s →
    (r : Act) × In r xs × (rest : List Act) × (path xs l ≡ r ∷ rest)
root_there xs l s found = by (first_in xs l)
  where
    by : First xs (path xs l) → (r : Act) × In r xs × (rest : List Act) × (path xs l ≡ r ∷ rest)
    by (Begins r rest i is) = (r, i, rest, is)
    by (Nobody is) = let e = ends_with xs l s found in absurd (none e.0 s (sym e.1 ∙ is))
      where
        none : (us : List Act) (s : Act) → us ++ s ∷ [] ≡ [] → ⊥
        none [] s e = cc
        none (u ∷ us) s e = cc

-- the actions have this root
abbrev pub has_root : List Act → Uid → Act → Bool
has_root xs r a = uid_eq (first_uid (uids (path xs a.label))) r

-- two actions have one root, by its number and by its Uid
same_root : (xs : List Act) → AreDistinct xs → (l m : List ℕ) (a b : Act) → act_in xs l ≡ Some a → act_in xs m ≡ Some b →
    is_root (root_in (path xs l)) (root_in (path xs m)) ≡ uid_eq (first_uid (uids (path xs l))) (first_uid (uids (path xs m)))
same_root xs distinct l m a b found also =
    let r = root_there xs l a found in
    let q = root_there xs m b also in
    (λ i. is_root (root_in (r.3 i)) (root_in (q.3 i))) ∙ apart_acts xs distinct r.0 q.0 r.1 q.1
    ∙ sym (λ i. uid_eq (first_uid (uids (r.3 i))) (first_uid (uids (q.3 i))))

-- ---- a coordinator's actions of one root

module _ (hd : Header) (w : World) (h : Holds hd KnowsAll w) (f : Holds hd KnowsFinds w) (k : ℕ) (n : Node)
    (there : at_place k w.nodes ≡ Some n) (t : Parts) (live : n.live ≡ Some t) (r : Uid) (own : is_own r t.coord.tree ≡ true) where
  abbrev xs : List Act
  xs = acts w.lines

  abbrev bs : List Branch
  bs = t.coord.tree.branches

  abbrev test : Act → Bool
  test a = has_root xs r a

  -- whoever has it is one of the coordinator's
  its_branch : (a : Act) → In a xs → test a ≡ true → (b : Branch) × (branch_of a.uid t.coord.tree ≡ Some b)
  its_branch a i is = below_one hd w h f k n there t live a r i on own
    where
      on : is_on (uids (path xs a.label)) r ≡ true
      on =
          let s = in_named xs a i in
          let q = root_there xs a.label s.0 s.1 in
          let same : (let z = q.0 in z.uid) ≡ r
          = uid_is (let z = q.0 in z.uid) r (sym (ap (λ us. uid_eq (first_uid (uids us)) r) q.3) ∙ is) in
          (λ j. is_on (uids (q.3 j)) r) ∙ (λ j. is_on (same j ∷ uids q.2) r) ∙ (λ j. uid_same r j || is_on (uids q.2) r)

  -- the actions up to a number
  abbrev up_to : ℕ → Act → Bool
  up_to m a = test a && nat_le (let u = a.uid in u.num) m

  none_yet : (a : Act) → In a xs → up_to 0 a ≡ false
  none_yet a i = by (test a) refl
    where
      by : (b : Bool) → test a ≡ b → (b && nat_le (let u = a.uid in u.num) 0) ≡ false
      by false is = refl
      by true is = let b = its_branch a i is in
          low (let u = a.uid in u.num) (found_by a.uid t.coord.tree b.0 b.1).1
        where
          low : (m : ℕ) {b : Branch} → at_place m bs ≡ Some b → nat_le m 0 ≡ false
          low zero {b} at = let no_way : ◌≡◌ {A = Option Branch} None (Some b) = at in absurd (cc no_way)
          low (suc m) at = grind (arith, nat_tests)

  all_then : (a : Act) → In a xs → up_to (length bs) a ≡ test a
  all_then a i = by (test a) refl
    where
      by : (b : Bool) → test a ≡ b → (b && nat_le (let u = a.uid in u.num) (length bs)) ≡ b
      by false is = refl
      by true is = let b = its_branch a i is in
          within (let u = a.uid in u.num) (found_by a.uid t.coord.tree b.0 b.1).1
        where
          short : (cs : List Branch) (m : ℕ) {b : Branch} → slice_get cs m ≡ Some b → suc m ≤ length cs
          short [] m {b} at = let no_way : ◌≡◌ {A = Option Branch} None (Some b) = at in absurd (cc no_way)
          short (c ∷ cs) zero at = omega arith
          short (c ∷ cs) (suc m) at = let rest = short cs m at in omega (arith, rest)

          within : (m : ℕ) {b : Branch} → at_place m bs ≡ Some b → nat_le m (length bs) ≡ true
          within zero at = grind (arith, nat_tests)
          within (suc m) at = let le = short bs m at in grind (arith, nat_tests, le)

  -- one number more
  next : (m : ℕ) (b : Branch) → at_place (suc m) bs ≡ Some b →
      length (filter (up_to (suc m)) xs) ≡ length (filter (up_to m) xs) + cond (is_of r.num b) 1 0
  next m b at =
      one_more (up_to (suc m)) (up_to m) xs (apart hd w h f) a one.among off same
      ∙ ap (λ z. length (filter (up_to m) xs) + cond z 1 0) its_test
    where
      u : Uid
      u = uid_at (suc m) t.coord

      found : branch_of u t.coord.tree ≡ Some b
      found = (λ i. cond (own_number hd w h f k n there t live (suc m) i) (at_place (suc m) bs) None) ∙ at

      a : Act
      a = (one_of hd w h f k n there t live u b found).0

      one : IsOne w.lines t.coord.doings u b a
      one = (one_of hd w h f k n there t live u b found).1

      number : (let v = a.uid in v.num) ≡ suc m
      number = ap (λ (v : Uid). v.num) one.uid

      off : up_to m a ≡ false
      off = ap (λ j. test a && nat_le j m) number ∙ late (test a)
        where
          above : nat_le (suc m) m ≡ false
          above = grind (arith, nat_tests)

          late : (x : Bool) → (x && nat_le (suc m) m) ≡ false
          late true = above
          late false = refl

      same : (x : Act) → In x xs → (x.uid ≡ a.uid → ⊥) → up_to (suc m) x ≡ up_to m x
      same x i other = by (test x) refl
        where
          by : (c : Bool) → test x ≡ c → (c && nat_le (let v = x.uid in v.num) (suc m)) ≡ (c && nat_le (let v = x.uid in v.num) m)
          by false is = refl
          by true is =
              let c = its_branch x i is in
              let x_own = (found_by x.uid t.coord.tree c.0 c.1).0 in
              differ (let v = x.uid in v.num)
              (λ e. other (own_is x.uid u t.coord.tree x_own (own_number hd w h f k n there t live (suc m)) e
              ∙ sym one.uid))
            where
              differ : (j : ℕ) → (j ≡ suc m → ⊥) → nat_le j (suc m) ≡ nat_le j m
              differ j apart = both (nat_le j m) refl
                where
                  both : (z : Bool) → nat_le j m ≡ z → nat_le j (suc m) ≡ z
                  both true e = grind (arith, nat_tests, e)
                  both false e = more (nat_le j (suc m)) refl
                    where
                      more : (y : Bool) → nat_le j (suc m) ≡ y → y ≡ false
                      more false e2 = refl
                      more true e2 = absurd (apart (grind (arith, nat_tests, e, e2)))

      its_test : up_to (suc m) a ≡ is_of r.num b
      its_test =
          ap (λ j. test a && nat_le j (suc m)) number ∙ (λ i. test a && all i) ∙ and_true (test a)
          ∙ ap (λ us. uid_eq (first_uid us) r) one.path_is ∙ by_number (root_of b.path) (root_is_own hd w h f k n there t live u b found)
        where
          all : nat_le (suc m) (suc m) ≡ true
          all = grind (arith, nat_tests)

          and_true : (x : Bool) → (x && true) ≡ x
          and_true true = refl
          and_true false = refl

          by_number : (v : Uid) → is_own v t.coord.tree ≡ true → uid_eq v r ≡ (v.num == r.num)
          by_number v v_own = by (uid_eq v r) refl (v.num == r.num) refl
            where
              by : (x : Bool) → uid_eq v r ≡ x → (y : Bool) → (v.num == r.num) ≡ y → x ≡ y
              by true e true f = refl
              by false e false f = refl
              by true e false f = absurd (cc (sym (self r.num) ∙ ap (λ (z : Uid). z.num == r.num) (sym (uid_is v r e)) ∙ f))
                where
                  self : (j : ℕ) → (j == j) ≡ true
                  self j = grind (arith, nat_tests)
              by false e true f =
                  let one : v ≡ r = own_is v r t.coord.tree v_own own (eqb-true v.num r.num f) in
                  absurd (cc (sym (uid_same v) ∙ ap (uid_eq v) one ∙ e))

  counts : (m : ℕ) (cs : List Branch) → ((i : ℕ) (b : Branch) → slice_get cs i ≡ Some b → at_place (suc (m + i)) bs ≡ Some b) →
      length (filter (up_to (m + length cs)) xs) ≡ length (filter (up_to m) xs) + count_in r.num cs
  counts m [] at = ap (λ j. length (filter (up_to j) xs)) (none m) ∙ sym (none (length (filter (up_to m) xs)))
    where
      none : (j : ℕ) → j + 0 ≡ j
      none j = omega arith
  counts m (b ∷ cs) at =
      ap (λ j. length (filter (up_to j) xs)) (longer m (length cs))
      ∙ counts (suc m) cs (λ i c is. subst (λ j. at_place (suc j) bs ≡ Some c) (shift m i) (at (suc i) c is))
      ∙ ap (λ j. j + count_in r.num cs) (next m b (subst (λ j. at_place (suc j) bs ≡ Some b) (start m) (at 0 b refl)))
      ∙ by (is_of r.num b)
    where
      start : (j : ℕ) → j + 0 ≡ j
      start j = omega arith

      longer : (j l : ℕ) → j + suc l ≡ suc j + l
      longer j l = omega arith

      shift : (j i : ℕ) → j + suc i ≡ suc j + i
      shift j i = omega arith

      by : (x : Bool) → (length (filter (up_to m) xs) + cond x 1 0) + count_in r.num cs
          ≡ length (filter (up_to m) xs) + length (cond x (b ∷ filter (is_of r.num) cs) (filter (is_of r.num) cs))
      by true = one (length (filter (up_to m) xs)) (count_in r.num cs)
        where
          one : (j l : ℕ) → (j + 1) + l ≡ j + suc l
          one j l = omega arith
      by false = zero_more (length (filter (up_to m) xs)) (count_in r.num cs)
        where
          zero_more : (j l : ℕ) → (j + 0) + l ≡ j + l
          zero_more j l = omega arith

  -- as many in both
  pub same_count : length (filter test xs) ≡ count_in r.num bs
  same_count =
      sym (ap length (filter_same (up_to (length bs)) test xs all_then))
      ∙ ap (λ j. length (filter (up_to j) xs)) (first (length bs))
      ∙ counts 0 bs (λ i b is. subst (λ j. at_place (suc j) bs ≡ Some b) (first i) is)
      ∙ ap (λ j. j + count_in r.num bs) (ap length (filter_same (up_to 0) (λ a. false) xs none_yet) ∙ empty xs)
      ∙ drop (count_in r.num bs)
    where
      first : (j : ℕ) → j ≡ 0 + j
      first j = omega arith

      drop : (j : ℕ) → 0 + j ≡ j
      drop j = omega arith

      empty : (ys : List Act) → length (filter (λ (a : Act). false) ys) ≡ 0
      empty [] = refl
      empty (y ∷ ys) = empty ys

-- ---- by the root of a label

pub same_roots : (xs : List Act) → AreDistinct xs → (l : List ℕ) (c : Act) → act_in xs l ≡ Some c →
    filter (λ (a : Act). is_root (root_in (path xs a.label)) (root_in (path xs l))) xs
    ≡ filter (has_root xs (first_uid (uids (path xs l)))) xs
same_roots xs distinct l c found =
    filter_same (λ (a : Act). is_root (root_in (path xs a.label)) (root_in (path xs l))) (has_root xs (first_uid (uids (path xs l)))) xs
    (λ a i. let s = in_named xs a i in same_root xs distinct a.label l s.0 c s.1 found)
