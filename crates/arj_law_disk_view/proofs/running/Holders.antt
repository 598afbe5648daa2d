-- Holders of locks: the tops of their paths were begun.
use Rattle.arj_law_parts.proofs.Words
use Words.{◌≡◌, ◌≤◌, ℕ, zero, suc, ◌-◌, List, [], ◌∷◌, ◌++◌, length, take, slice_index_or, nat_lt, cond, Option, Some, None, refl, sym, ◌∙◌}
use Words.{ap, subst, inl, inr, Contains, arith, if◌then◌else◌, before_last, top_uid, nobody, last_taken, In, in_from, in_to, Uid, Kind}
use Words.{Row, front, last_uid, tops_of, uids_of, top_path, row_top}
use Words.kind
use Rattle.arj_law_disk_view.proofs.Terms
use Terms.{Action, AreBegun, Stands, act_of, path_length, serial_alone, IsBegun, IsCallRow, IsEntryRow, IsTopPath}
use Rattle.arj_law_disk_view.proofs.running.Begun.{Stood, stood}

pub begun_more : (a : Action) (acts : List Action) (u : Uid) → IsBegun acts u → IsBegun (a ∷ acts) u
begun_more a acts u b = (b.0, in_to b.0 (a ∷ acts) (inr (in_from b.0 acts b.1)), b.2)

pub path_more : (a : Action) (acts : List Action) (us : List Uid) (n : ℕ) → IsTopPath acts us n → IsTopPath (a ∷ acts) us n
path_more a acts us n (inl f) = inl (f.0, begun_more a acts f.0 f.1, f.2, f.3)
path_more a acts us n (inr f) = inr (f.0, in_to f.0 (a ∷ acts) (inr (in_from f.0 acts f.1)), f.2, f.3, f.4)

pub call_more : (a : Action) (acts : List Action) (r : Row) → IsCallRow acts r → IsCallRow (a ∷ acts) r
call_more a acts r f = (f.0, in_to f.0 (a ∷ acts) (inr (in_from f.0 acts f.1)), f.2, f.3)

-- ---- up to its top, an action's path counts

pub taken_front : (us : List Uid) (u : Uid) (n : ℕ) → n ≤ length us → take n (us ++ u ∷ []) ≡ take n us
taken_front [] u zero le = refl
taken_front [] u (suc n) le = let never : ◌≡◌ {A = ℕ} 0 1 = omega (arith, le) in cc
taken_front (w ∷ us) u zero le = refl
taken_front (w ∷ us) u (suc n) le = ap (λ vs. w ∷ vs) (taken_front us u n (omega (arith, le)))

top_path_in : (acts : List Action) → AreBegun acts → (a : Action) → In a acts → IsTopPath acts (top_path a.path) (tops_of a.path)
top_path_in [] begun a none = absurd none
top_path_in (b ∷ acts) begun a (inr old) = path_more b acts (top_path a.path) (tops_of a.path) (top_path_in acts begun.1 a old)
top_path_in (b ∷ acts) begun a (inl same) = subst (λ (x : Action). IsTopPath (b ∷ acts) (top_path x.path) (tops_of x.path)) same
    (by b.kind refl begun.0.stands (λ c i. top_path_in acts begun.1 c i))
  where
    here : Contains (b ∷ acts) b
    here = in_to b (b ∷ acts) (inl refl)

    alone : uids_of b.path ≡ act_of b ∷ [] → tops_of b.path ≡ 1 → IsTopPath (b ∷ acts) (top_path b.path) (tops_of b.path)
    alone uids tops = inl (act_of b, (b, here, refl), (λ j. take (tops j) (uids j)), tops)

    by : (k : Kind) → b.kind ≡ k → Stands acts b k → ((c : Action) → In c acts → IsTopPath acts (top_path c.path) (tops_of c.path)) →
        IsTopPath (b ∷ acts) (top_path b.path) (tops_of b.path)
    by kind.Top is s older = alone s.0 s.1
    by kind.Serial is s older = alone s.0 s.1
    by kind.Independent is s older = alone s.0 s.1
    by kind.Nested is s older =
        let c : Action = s.0 in
        let inside : tops_of c.path ≤ length (uids_of c.path) = omega (arith, c.path.within, path_length c.path) in
        let same : top_path b.path ≡ top_path c.path = (λ j. take (s.4 j) (s.3 j))
        ∙ taken_front (uids_of c.path) (act_of b) (tops_of c.path) inside in
        path_more b acts (top_path b.path) (tops_of b.path) (subst (λ us. IsTopPath acts us (tops_of b.path)) (sym same)
        (subst (λ n. IsTopPath acts (top_path c.path) n) (sym s.4) (older c (in_from c acts s.1))))
    by kind.Constituent is s older =
        let c : Action = s.0 in
        let up = serial_alone acts begun.1 c (in_from c acts s.1) s.2 in
        let uids : uids_of b.path ≡ act_of c ∷ act_of b ∷ [] = s.3 ∙ ap (λ us. us ++ act_of b ∷ []) up.0 in
        inr (b, here, is, (λ j. take (s.4 j) (uids j)) ∙ sym uids, s.4)

module _ (acts : List Action) (begun : AreBegun acts) where
  pub top_path_is : (a : Action) → Contains acts a → IsTopPath acts (top_path a.path) (tops_of a.path)
  top_path_is a c = top_path_in acts begun a (in_from a acts c)

  -- a constituent, and its serializing action
  pub constituent : (a : Action) → Contains acts a → a.kind ≡ kind.Constituent → Stood acts a kind.Constituent
  constituent a c is = subst (λ kd. Stood acts a kd) is (stood acts begun a c)

  last_begun : (us : List Uid) (n : ℕ) → IsTopPath acts us n → IsBegun acts (last_uid us)
  last_begun us n (inl f) = subst (IsBegun acts) (ap last_uid (sym f.2)) f.1
  last_begun us n (inr f) = let q = constituent f.0 f.1 f.2 in (f.0, f.1, sym (ap last_uid (f.3 ∙ q.3)))

  -- the top of a lock was begun
  pub entry_top : (r : Row) → IsEntryRow acts r → IsBegun acts (row_top r)
  entry_top r (inl f) = subst (IsBegun acts) (sym (λ j. top_uid (f.3 j) (f.2 j))) f.1
  entry_top r (inr f) = let q = constituent f.0 f.1 f.2 in (f.0, f.1, sym (λ j. top_uid (f.4 j) ((f.3 ∙ q.3) j)))

  pub call_top : (r : Row) → IsCallRow acts r → IsBegun acts (row_top r)
  call_top r f = subst (IsBegun acts) (sym ((λ j. top_uid (f.3 j) (f.2 j)) ∙ at_top (tops_of f.0.path) (uids_of f.0.path) f.0.path.one_top
      (omega (arith, f.0.path.within, path_length f.0.path)))) (last_begun (top_path f.0.path) (tops_of f.0.path) (top_path_is f.0 f.1))
    where
      at_top : (n : ℕ) (us : List Uid) → 1 ≤ n → n ≤ length us → top_uid n us ≡ last_uid (take n us)
      at_top zero us one le = let never : ◌≡◌ {A = ℕ} 0 1 = omega (arith, one) in cc
      at_top (suc n) us one le = let less : suc n - 1 ≡ n = omega arith in
          ap (λ m. slice_index_or us m nobody) less ∙ last_taken us n (omega (arith, le))

  -- what a top's path passes its locks to
  pub path_heir : (us : List Uid) (n : ℕ) → IsTopPath acts us n → (h : Uid) → before_last us ≡ Some h →
      IsTopPath acts (front us) (if nat_lt (length (front us)) n then length (front us) else n)
  path_heir us n (inl f) h heir = let no_way : ◌≡◌ {A = Option Uid} None (Some h) = sym (ap before_last f.2) ∙ heir in cc
  path_heir us n (inr f) h heir = let q = constituent f.0 f.1 f.2 in let path = f.3 ∙ q.3 in inl (
    act_of q.0,
    (q.0, q.1, refl),
    ap front path,
    (λ j. cond (nat_lt (length (front (path j))) (f.4 j)) (length (front (path j))) (f.4 j)),
  )
