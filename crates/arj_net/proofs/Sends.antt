-- What a new frame leaves of the others.
use Rattle.std.proofs.Common.{◌≡◌, ℕ, suc, zero, ◌+◌, ◌<◌, ◌≤◌, List, [], ◌∷◌, ◌++◌, length, true, false, refl, ap, ◌∙◌, arith}
use Rattle.std.specs.Prelude.{Some, slice_get}
use Rattle.std.specs.Option.{option_map_or}
use Rattle.std.proofs.lemmas.Bool.{cases_lt}
use Rattle.std.proofs.lemmas.List.{length-append}
use Rattle.std.proofs.Math.Logic.{⊎_elim}
use Rattle.arj_net.specs.Net.{is_open, is_pending, new_frame}
use Rattle.arj_net.specs.Front.{KeepsFront}
use Rattle.arj_net.specs.declared.net.Frame.{Frame}
use Rattle.arj_net.specs.declared.net.Sent.{Sent}

-- an earlier place
slice_get-append : (net : List Sent) (s : Sent) (place : ℕ) → place < length net → slice_get (net ++ s ∷ []) place ≡ slice_get net place
slice_get-append [] s place less = absurd (omega (arith, less))
slice_get-append (t ∷ net) s zero less = refl
slice_get-append (t ∷ net) s (suc place) less = slice_get-append net s place (omega (arith, less))

-- the new place
slice_get-last : (net : List Sent) (s : Sent) → slice_get (net ++ s ∷ []) (length net) ≡ Some s
slice_get-last [] s = refl
slice_get-last (t ∷ net) s = slice_get-last net s

-- an earlier number, and 0
earlier : (net : List Sent) (s : Sent) (k : ℕ) → k ≤ length net → is_open (net ++ s ∷ []) k ≡ is_open net k
earlier net s zero less = refl
earlier net s (suc place) less = ap (λ found. option_map_or is_pending found false) (slice_get-append net s place (omega (arith, less)))

-- the new number
newest : (net : List Sent) (frame : Frame) → is_open (net ++ new_frame frame ∷ []) (suc (length net)) ≡ true
newest net frame = ap (λ found. option_map_or is_pending found false) (slice_get-last net (new_frame frame))

-- the first open frame stays the first, and a new one is it where there was none
pub front_after_send : (net : List Sent) (frame : Frame) (n : ℕ) → length net < 100000 → KeepsFront net n →
    KeepsFront (net ++ new_frame frame ∷ []) n
front_after_send net frame n room keeps =
    let longer = length-append net (new_frame frame ∷ []) in
    record {
      few = omega (arith, longer);
      front = record {
        within = omega (arith, longer, keeps.front.within);
        closed = λ k below. earlier net (new_frame frame) k (omega (arith, below, keeps.front.within)) ∙ keeps.front.closed k below;
        next = λ _. ⊎_elim
            (λ (less : n < length net). earlier net (new_frame frame) (n + 1) (omega (arith, less)) ∙ keeps.front.next less)
            (λ (past : length net ≤ n).
            let last : n + 1 ≡ suc (length net) = omega (arith, past, keeps.front.within) in
            ap (is_open (net ++ new_frame frame ∷ [])) last ∙ newest net frame)
            (cases_lt n (length net));
      };
    }
