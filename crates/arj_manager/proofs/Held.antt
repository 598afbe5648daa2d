-- The tops of some objects, and of the others.
use Rattle.std.proofs.Common.{◌≡◌, ◌⊎◌, inl, inr, ℕ, ◌+◌, ◌<◌, List, [], ◌∷◌, ◌++◌, length, drop, get_or, map, Bool, true, false, cond}
use Rattle.std.proofs.Common.{◌||◌, refl, ap, sym, ◌∙◌, subst, Contains, arith}
use Rattle.std.specs.BTreeMap.{is_at}
use Rattle.std.specs.BTreeSet.{BTreeSet, contains}
use Rattle.std.specs.Cmp.{eq_by_cmp_equiv}
use Rattle.std.specs.Ordering.{eq_by_cmp}
use Rattle.std.specs.Set.{is_member}
use Rattle.std.proofs.lemmas.List.{drop_more}
use Rattle.arj_base.specs.contracts.uid.UidOrd.TheImpl.Laws.{total-law}
use Rattle.std.specs.Prelude.{◌↔◌}
use Rattle.std.proofs.lemmas.List.Elements.{Contains-append_cases, Contains-append_left, Contains-append_right}
use Rattle.arj_base.specs.declared.uid.Uid.{Uid}
use Rattle.arj_base.specs.Rows.{Row}
use Rattle.arj_lock.specs.Held.{AreListed, AreTops, set_order, top_of}
use Rattle.arj_protocol.specs.Copy.{Copy}
use Rattle.arj_manager.specs.Manager.{Copies, tops_in}

-- those of one object more
with_rows : (all so_far held rest : List Uid) (rows : List Row) → AreTops rows held → (u : Uid) →
    (Contains so_far u ⊎ Contains (map top_of rows ++ rest) u) ↔ Contains all u
    → (Contains (so_far ++ held) u ⊎ Contains rest u) ↔ Contains all u
with_rows all so_far held rest rows are u same = (to, λ has. from (same.1 has))
  where
    to : Contains (so_far ++ held) u ⊎ Contains rest u → Contains all u
    to (inl has) = both (Contains-append_cases so_far held u has)
      where
        both : Contains so_far u ⊎ Contains held u → Contains all u
        both (inl old) = same.0 (inl old)
        both (inr new) = same.0 (inr (Contains-append_left (map top_of rows) rest u ((are.each u).0 new)))
    to (inr has) = same.0 (inr (Contains-append_right (map top_of rows) rest u has))

    from : Contains so_far u ⊎ Contains (map top_of rows ++ rest) u → Contains (so_far ++ held) u ⊎ Contains rest u
    from (inl old) = inl (Contains-append_left so_far held u old)
    from (inr has) = both (Contains-append_cases (map top_of rows) rest u has)
      where
        both : Contains (map top_of rows) u ⊎ Contains rest u → Contains (so_far ++ held) u ⊎ Contains rest u
        both (inl new) = inl (Contains-append_right so_far held u ((are.each u).1 new))
        both (inr other) = inr other

pub one_more : (all so_far new held : List Uid) (e : ℕ × Copy) (before after : Copies) → before ≡ e ∷ after → new ≡ so_far ++ held →
    AreTops e.1.rows held → (u : Uid)
    → (Contains so_far u ⊎ Contains (tops_in before) u) ↔ Contains all u → (Contains new u ⊎ Contains (tops_in after) u) ↔ Contains all u
one_more all so_far new held e before after first is are u same =
    subst (λ us. (Contains us u ⊎ Contains (tops_in after) u) ↔ Contains all u) (sym is)
    (with_rows all so_far held (tops_in after) e.1.rows are u (subst (λ m. (Contains so_far u ⊎ Contains (tops_in m) u) ↔ Contains all u) first same))

pub none_left : (all so_far : List Uid) (before : Copies) → before ≡ [] → (u : Uid) →
    (Contains so_far u ⊎ Contains (tops_in before) u) ↔ Contains all u → Contains so_far u ↔ Contains all u
none_left all so_far before none u same = (λ has. same.0 (inl has), λ has. only (same.1 has))
  where
    only : Contains so_far u ⊎ Contains (tops_in before) u → Contains so_far u
    only (inl has) = has
    only (inr has) = let never : Contains [] u = subst (λ m. Contains (tops_in m) u) none has in absurd (omega (arith, never.1))

-- who lists these lists those that are the same
pub listed_as : (us ws list : List Uid) → ((u : Uid) → Contains us u ↔ Contains ws u) → AreListed us list → AreListed ws list
listed_as us ws list same are = record {
  each = λ u. (λ has. (same u).0 ((are.each u).0 has), λ has. (are.each u).1 ((same u).1 has));
  increasing = are.increasing;
}

-- a set with one Uid more, and those that are left
pub set_more : (set new : BTreeSet Uid) (x : Uid) (uids : List Uid) (i : ℕ) → i < length uids → x ≡ get_or uids i x →
    ((u : Uid) → contains set_order new u ≡ cond (is_at (set_order x) u) true (contains set_order set u)) → (u : Uid)
    → (contains set_order set u || is_member (eq_by_cmp set_order) (drop i uids) u) ≡ is_member (eq_by_cmp set_order) uids u
    → (contains set_order new u || is_member (eq_by_cmp set_order) (drop (i + 1) uids) u) ≡ is_member (eq_by_cmp set_order) uids u
set_more set new x uids i within read came u same =
    (λ k. came u k || rest)
    ∙ (swap (is_at (set_order x) u) (contains set_order set u)
    ∙ ((λ k. contains set_order set u || ((eq_by_cmp_equiv total-law).symm x u k || rest))
    ∙ (ap (λ us. contains set_order set u || is_member (eq_by_cmp set_order) us u) (sym (drop_more uids i x within ∙ ap (λ w. w ∷ drop (i + 1) uids) (sym read))) ∙ same)))
  where
    rest : Bool
    rest = is_member (eq_by_cmp set_order) (drop (i + 1) uids) u

    swap : (a b : Bool) → (cond a true b || rest) ≡ (b || (a || rest))
    swap true true = refl
    swap true false = refl
    swap false b = refl
