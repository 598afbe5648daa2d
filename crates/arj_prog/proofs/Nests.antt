-- The open statements, in the order in which they are kept.
use Rattle.std.proofs.Common.{◌≡◌, ℕ, zero, suc, ◌+◌, ◌<◌, false, true, length, take, get_or, List, [], ◌∷◌, ◌++◌, sym, ◌∙◌, ap, refl}
use Rattle.std.proofs.Common.{arith}
use Rattle.std.specs.Prelude.{cond, reverse, slice_set}
use Rattle.std.proofs.lemmas.Bool.{both_ways}
use Rattle.std.proofs.lemmas.List.{reverse-append}
use Rattle.std.proofs.lemmas.List.Sums.{sum_by-append}
use Rattle.arj_prog.specs.declared.frame.Frame.{Frame}
use Rattle.arj_prog.specs.Listing.{Listing}
use Rattle.arj_prog.specs.Nesting.{blocks_in, in_second, is_block, with_first}

-- Blocks are as many from the other end.
pub blocks_reverse : (fs : List Frame) → blocks_in (reverse fs) ≡ blocks_in fs
blocks_reverse [] = refl
blocks_reverse (f ∷ fs) =
    let ends : blocks_in (reverse (f ∷ fs)) ≡ blocks_in (reverse fs ++ f ∷ []) = ap blocks_in (reverse-append (f ∷ []) fs) in
    let sums : blocks_in (reverse fs ++ f ∷ []) ≡ blocks_in (reverse fs) + blocks_in (f ∷ []) =
    sum_by-append (λ (g : Frame). cond (is_block g.opened) 1 0) (reverse fs) (f ∷ []) in
    let rest = blocks_reverse fs in
    let front : blocks_in (f ∷ fs) ≡ blocks_in (f ∷ []) + blocks_in fs =
    sum_by-append (λ (g : Frame). cond (is_block g.opened) 1 0) (f ∷ []) fs in
    omega (arith, ends, sums, rest, front)

last_split : (fs : List Frame) (n : ℕ) (f : Frame) → length fs ≡ n + 1 → fs ≡ take n fs ++ get_or fs n f ∷ []
last_split [] n f long = absurd (omega arith)
last_split (g ∷ []) zero f long = refl
last_split (g ∷ h ∷ fs) zero f long = absurd (omega arith)
last_split (g ∷ fs) (suc n) f long = ap (λ gs. g ∷ gs) (last_split fs n f (omega arith))

set_last : (fs : List Frame) (n : ℕ) (f : Frame) → length fs ≡ n + 1 → slice_set fs n f ≡ take n fs ++ f ∷ []
set_last [] n f long = absurd (omega arith)
set_last (g ∷ []) zero f long = refl
set_last (g ∷ h ∷ fs) zero f long = absurd (omega arith)
set_last (g ∷ fs) (suc n) f long = ap (λ gs. g ∷ gs) (set_last fs n f (omega arith))

-- a condition behind its first list, with the statements before it
abbrev second : Listing → Frame → Frame
second list f = record { before = f.before; opened = with_first list f.opened }

-- The innermost comes last.
pub second_last : (fs : List Frame) (n : ℕ) (list : Listing) (f : Frame) → length fs ≡ n + 1 → f ≡ get_or fs n f →
    reverse (slice_set fs n (second list f)) ≡ in_second list (reverse fs)
second_last fs n list f long is =
    let whole : fs ≡ take n fs ++ f ∷ [] = last_split fs n f long ∙ ap (λ g. take n fs ++ g ∷ []) (sym is) in
    let old : reverse fs ≡ f ∷ reverse (take n fs) = ap reverse whole ∙ reverse-append (take n fs) (f ∷ []) in
    ap reverse (set_last fs n (second list f) long) ∙ (reverse-append (take n fs) (second list f ∷ []) ∙ ap (in_second list) (sym old))

pub none_second : (fs : List Frame) (list : Listing) → length fs ≡ 0 → reverse fs ≡ in_second list (reverse fs)
none_second [] list none = refl
none_second (f ∷ fs) list none = absurd (omega arith)

pub no_more : (n : ℕ) → (0 < n → false ≡ true) → n ≡ 0
no_more zero h = refl
no_more (suc n) h = absurd (both_ways false refl (h (omega arith)))
