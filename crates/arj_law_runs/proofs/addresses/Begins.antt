-- The paths of actions that begin: none is too long.
use Rattle.arj_law_parts.proofs.Words
use Words.{◌≡◌, ◌≤◌, ◌<◌, ◌+◌, ◌&&◌, ℕ, List, [], ◌∷◌, ◌++◌, Bool, true, false, length, nat_le, Option, Some, None, refl, sym, subst, arith}
use Words.{⊤, IfSome, nat_tests, length-append, path_is, Kind, Label, Uid, path_of, tops_of, uids_of, Coord, begin_reasons, begin_refusal}
use Words.{branch_named, is_below_16, parent_of, refused_by, Branch, path_below}
use Words.kind
use Rattle.arj_law_runs.proofs.Terms.{path_length, path_some, behind, off, PathOf, UidsOf}
use Rattle.arj_law_runs.proofs.addresses.Lists.{all_append}
use Rattle.arj_protocol.specs.Tree.{path_in}

-- the parent's path isn't the longest
abbrev pub IsShallow : Kind → Option Branch → Type 0
IsShallow q None = ⊤
IsShallow q (Some b) = is_below_16 q ≡ true → length (uids_of b.path) < 16

-- a node refuses what would begin too deep
pub shallow : (q : Kind) (c : Coord) (o : Option Label) → begin_refusal q c o ≡ None → IsShallow q (parent_of o c)
shallow q c None no_reason = tt
shallow q c (Some p) no_reason = by (branch_named p c) refl no_reason
  where
    less : (b : Branch) (n : Bool) → n ≡ true → (n && nat_le 16 (length (uids_of b.path))) ≡ false → length (uids_of b.path) < 16
    less b true on is = let low : nat_le 16 (length (uids_of b.path)) ≡ false = is in grind (arith, nat_tests, low)
    less b false on is = let no_way : false ≡ true = on in absurd (cc no_way)

    by : (o : Option Branch) → branch_named p c ≡ o → refused_by (begin_reasons q) c o ≡ None → IsShallow q o
    by None is no_reason = tt
    by (Some b) is no_reason = λ on.
        let rs = begin_reasons q b c in
        let first = off rs no_reason in
        let second = off (behind rs) first.1 in
        let third = off (behind (behind rs)) second.1 in
        let fourth = off (behind (behind (behind rs))) third.1 in
        less b (is_below_16 q) on (off (behind (behind (behind (behind rs)))) fourth.1).0

module _ (G : ℕ → Type 0) where
  path_of_is : (us : List Uid) (tops : ℕ) → 1 ≤ length us → length us ≤ 16 → 1 ≤ tops → tops ≤ 2 → tops ≤ length us → UidsOf G us →
      PathOf G (path_of us tops)
  path_of_is us tops some most first two within all = let m = path_is us tops some most first two within in subst (UidsOf G) (sym m.has) all

  pub below_is : (q : Kind) (o : Option Branch) (u : Uid) → IsShallow q o → G u.node → IfSome o (λ (b : Branch). PathOf G b.path) →
      PathOf G (path_below q o u)
  below_is q None u shallow its all = alone u its
    where
      alone : (u : Uid) → G u.node → PathOf G (path_of (u ∷ []) 1)
      alone u its = path_of_is (u ∷ []) 1 (omega arith) (omega arith) (omega arith) (omega arith) (omega arith) (its, tt)
  below_is q (Some b) u shallow its all = by q shallow
    where
      alone : PathOf G (path_of (u ∷ []) 1)
      alone = path_of_is (u ∷ []) 1 (omega arith) (omega arith) (omega arith) (omega arith) (omega arith) (its, tt)

      longer : (n : ℕ) → 1 ≤ n → length (uids_of b.path) < 16 → n ≤ 2 → n ≤ length (uids_of b.path) + 1 →
          PathOf G (path_of (uids_of b.path ++ u ∷ []) n)
      longer n first less two within =
          let long = length-append (uids_of b.path) (u ∷ []) in
          path_of_is (uids_of b.path ++ u ∷ []) n (omega (arith, long)) (omega (arith, long, less)) first two (omega (arith, long, within))
          (all_append _ (uids_of b.path) (u ∷ []) all (its, tt))

      by : (q : Kind) → (is_below_16 q ≡ true → length (uids_of b.path) < 16) → PathOf G (path_in q b.path u)
      by kind.Nested less = let p = b.path in
          longer (tops_of b.path) p.one_top (less refl) p.two_tops (omega (arith, path_length b.path, p.within))
      by kind.Constituent less = longer 2 (omega arith) (less refl) (omega arith) (omega (arith, path_some b.path))
      by kind.Top less = alone
      by kind.Serial less = alone
      by kind.Independent less = alone
