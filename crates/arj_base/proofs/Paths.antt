-- The places of a path.
use Rattle.std.proofs.Common.{◌≡◌, ℕ, ◌<◌, zero, suc, Some, List, [], ◌∷◌, length, take, slice_index_or, refl, arith, ◌+◌, ◌-◌, ◌≤◌, ◌∙◌}
use Rattle.std.proofs.Common.{ap, sym, drop, replicate, slice_set, min, Bool, true, false, if◌then◌else◌}
use Rattle.std.proofs.lemmas.List.{take-set, length-take-le, drop-set, drop-set-lt, drop-drop, drop-replicate}
use Rattle.arj_base.specs.declared.uid.Uid.{Uid}
use Rattle.arj_base.specs.Uid.{nobody}
use Rattle.arj_base.specs.Path.{before_last}
use Rattle.arj_base.specs.Rows.{last_uid, front}

-- the last of those that are taken
pub last_taken : (us : List Uid) (n : ℕ) → n < length us → slice_index_or us n nobody ≡ last_uid (take (suc n) us)
last_taken [] n within = let never : ◌≡◌ {A = ℕ} 0 1 = omega (arith, within) in cc
last_taken (u ∷ us) zero within = refl
last_taken (u ∷ []) (suc n) within = let never : ◌≡◌ {A = ℕ} 0 1 = omega (arith, within) in cc
last_taken (u ∷ w ∷ us) (suc n) within = last_taken (w ∷ us) n (omega (arith, within))

-- the one before it
pub before_taken : (us : List Uid) (n : ℕ) → suc n < length us → Some (slice_index_or us n nobody) ≡ before_last (take (suc (suc n)) us)
before_taken [] n within = let never : ◌≡◌ {A = ℕ} 0 1 = omega (arith, within) in cc
before_taken (u ∷ []) n within = let never : ◌≡◌ {A = ℕ} 0 1 = omega (arith, within) in cc
before_taken (u ∷ w ∷ us) zero within = refl
before_taken (u ∷ w ∷ []) (suc n) within = let never : ◌≡◌ {A = ℕ} 0 1 = omega (arith, within) in cc
before_taken (u ∷ w ∷ v ∷ us) (suc n) within = before_taken (w ∷ v ∷ us) n (omega (arith, within))

-- nobody stands behind a Uid that is put behind the last
pub padded_more : (us : List Uid) (n : ℕ) (u : Uid) → drop n us ≡ replicate (16 - n) nobody →
    drop (n + 1) (slice_set us n u) ≡ replicate (16 - (n + 1)) nobody
padded_more us n u padded =
    drop-set-lt (n + 1) us n u (omega arith) ∙ sym (drop-drop 1 n us) ∙ ap (drop 1) padded ∙ drop-replicate 1 (16 - n) nobody
    ∙ ap (λ m. replicate m nobody) (omega arith)

-- nor behind the Uid before the last, where nobody is put in the place of the last
pub padded_less : (us : List Uid) (n : ℕ) → n < 16 → length us ≡ 16 → drop (n + 1) us ≡ replicate (16 - (n + 1)) nobody →
    drop n (slice_set us n nobody) ≡ replicate (16 - n) nobody
padded_less us n below whole padded =
    let one_more : suc (16 - (n + 1)) ≡ 16 - n = omega (arith, below) in
    drop-set us n nobody (omega (arith, below, whole)) ∙ ap (λ ws. nobody ∷ ws) padded ∙ ap (λ m. replicate m nobody) one_more

-- the path without its last Uid
pub front_taken : (us : List Uid) (n : ℕ) → n < length us → take n us ≡ front (take (suc n) us)
front_taken [] n within = let never : ◌≡◌ {A = ℕ} 0 1 = omega (arith, within) in cc
front_taken (u ∷ us) zero within = refl
front_taken (u ∷ []) (suc n) within = let never : ◌≡◌ {A = ℕ} 0 1 = omega (arith, within) in cc
front_taken (u ∷ w ∷ us) (suc n) within = ap (λ ws. u ∷ ws) (front_taken (w ∷ us) n (omega (arith, within)))

-- The parent's path: its Uids, the last of them, and how many end with its top.
pub parent_parts : (us : List Uid) (n len tops at least : ℕ) → length us ≡ 16 → 1 ≤ n → n < 16 → suc n ≡ len → at ≡ n → least ≡ min tops n
    → (take n (slice_set us at nobody) ≡ front (take len us))
    × (before_last (take len us) ≡ Some (last_uid (take n (slice_set us at nobody))))
    × (least ≡ min tops (length (take n (slice_set us at nobody))))
parent_parts us zero len tops at least whole some below len_is at_is least_is = let never : ◌≡◌ {A = ℕ} 0 1 = omega (arith, some) in cc
parent_parts us (suc n) len tops at least whole some below len_is at_is least_is =
    let kept : take (suc n) (slice_set us at nobody) ≡ take (suc n) us =
    ap (λ i. take (suc n) (slice_set us i nobody)) at_is ∙ take-set us (suc n) nobody in
    let parent : before_last (take (suc (suc n)) us) ≡ Some (last_uid (take (suc n) us)) =
    sym (before_taken us n (omega (arith, whole, below))) ∙ ap Some (last_taken us n (omega (arith, whole, below))) in
    let long : length (take (suc n) (slice_set us at nobody)) ≡ suc n =
    ap length kept ∙ length-take-le (suc n) us (omega (arith, whole, below)) in (
      kept ∙ front_taken us (suc n) (omega (arith, whole, below)) ∙ ap (λ m. front (take m us)) len_is,
      ap (λ m. before_last (take m us)) (sym len_is) ∙ parent ∙ ap (λ ws. Some (last_uid ws)) (sym kept),
      least_is ∙ ap (min tops) (sym long),
    )

-- the number of tops stays within its limits
pub tops_in_limits : (top : Bool) (tops len : ℕ) → 1 ≤ tops → tops ≤ 2 → tops ≤ len → (top ≡ true → len ≡ 1)
    → (1 ≤ (if top then 2 else tops)) × ((if top then 2 else tops) ≤ 2) × ((if top then 2 else tops) ≤ len + 1)
tops_in_limits true tops len one two within only = (omega arith, omega arith, omega (arith, only refl))
tops_in_limits false tops len one two within only = (one, two, omega (arith, within))
