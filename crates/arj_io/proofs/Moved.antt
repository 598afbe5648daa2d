-- What a read moves out of a list in memory.
use Rattle.std.proofs.Common.{◌≡◌, ℕ, ◌++◌, ◌+◌, ◌-◌, List, length, take, drop, ap, sym, ◌∙◌}
use Rattle.std.proofs.lemmas.List.{take_rest, take-append-drop, drop-drop}

-- the front of what is behind a place, and what is behind that front
pub moved_front : (read bytes left front : List ℕ) (at n : ℕ) → read ≡ bytes → drop at bytes ≡ left →
    front ≡ take n (take (length read - at) (drop at read)) → left ≡ front ++ drop (at + n) bytes
moved_front read bytes left front at n same behind copied =
    let left_is : drop at read ≡ left = ap (drop at) same ∙ behind in
    let front_is : front ≡ take n left = copied ∙ ap (take n) (take_rest read at ∙ left_is) in
    let rest_is : drop n left ≡ drop (at + n) bytes = ap (drop n) (sym behind) ∙ drop-drop n at bytes in
    sym (take-append-drop n left) ∙ (λ i. sym front_is i ++ rest_is i)
