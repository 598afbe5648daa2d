-- What becomes of one frame leaves the others alone.
use Rattle.std.proofs.Common.{◌≡◌, ℕ, suc, zero, ◌-◌, ◌<◌, ◌≤◌, List, [], ◌∷◌, length, get_or, false, refl, ap, ◌∙◌, arith}
use Rattle.std.specs.Prelude.{slice_get, slice_set}
use Rattle.std.specs.Option.{option_map_or}
use Rattle.std.proofs.Math.Seq.{map-set_same}
use Rattle.std.proofs.lemmas.Option.{slice_get_read}
use Rattle.arj_net.specs.Net.{frames, is_pending, changed_at}
use Rattle.arj_net.specs.Front.{ClosedBelow}
use Rattle.arj_net.specs.declared.net.Sent.{Sent}

-- writing what was changed back to its place changes the net at the number
pub changed_there : (change : Sent → Sent) (net : List Sent) (k place : ℕ) (s : Sent) → 0 < k → k ≤ length net → place ≡ k - 1 →
    s ≡ get_or net place s → slice_set net place (change s) ≡ changed_at change net k
changed_there change net zero place s some within is here = absurd (omega (arith, some))
changed_there change net (suc at) place s some within is here =
    let same : at ≡ place = omega (arith, is) in
    rw (same, slice_get_read net (length net) place s refl (omega (arith, within, is)) here) refl

-- and leaves the frames as they were
pub frames_stay : (change : Sent → Sent) (net : List Sent) (place : ℕ) (s : Sent) → (change s).frame ≡ s.frame → s ≡ get_or net place s →
    frames (slice_set net place (change s)) ≡ frames net
frames_stay change net place s keeps here = map-set_same (λ t. t.frame) net place (change s) s (keeps ∙ ap (λ t. t.frame) here)

-- no place is opened
closed_at : (net : List Sent) (place at : ℕ) (marked : Sent) → is_pending marked ≡ false →
    option_map_or is_pending (slice_get net at) false ≡ false
    → option_map_or is_pending (slice_get (slice_set net place marked) at) false ≡ false
closed_at [] place at marked done closed = closed
closed_at (s ∷ net) zero zero marked done closed = done
closed_at (s ∷ net) zero (suc at) marked done closed = closed
closed_at (s ∷ net) (suc place) zero marked done closed = closed
closed_at (s ∷ net) (suc place) (suc at) marked done closed = closed_at net place at marked done closed

pub closed_after : (net : List Sent) (place n : ℕ) (marked : Sent) → is_pending marked ≡ false → ClosedBelow net n →
    ClosedBelow (slice_set net place marked) n
closed_after net place n marked done closed zero below = refl
closed_after net place n marked done closed (suc at) below = closed_at net place at marked done (closed (suc at) below)
