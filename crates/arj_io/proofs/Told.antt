-- Pieces that move one after another move as one.
use Rattle.std.proofs.Common.{◌≡◌, ℕ, ◌++◌, ◌+◌, ◌-◌, List, length, take, drop, Option, Some, None, ap, sym, subst, ◌∙◌, append_assoc}
use Rattle.std.proofs.Math.Seq.{take-add}
use Rattle.std.proofs.lemmas.List.{take_rest}
use Rattle.arj_io.specs.Told.{Gives, Takes}

-- two pieces taken one after the other are taken as one
pub takes_more : (a b c : Option (List ℕ)) (p q : List ℕ) → Takes a p b → Takes b q c → Takes a (p ++ q) c
takes_more a b None p q first second = tt
takes_more a None (Some z) p q first second = absurd second
takes_more None (Some y) (Some z) p q first second = absurd first
takes_more (Some x) (Some y) (Some z) p q first second = second ∙ ap (λ s. s ++ q) first ∙ append_assoc x p q

-- two pieces given one after the other are given as one
pub gives_more : (a b c : Option (List ℕ)) (p q : List ℕ) → Gives a p b → Gives b q c → Gives a (p ++ q) c
gives_more None b c p q first second = tt
gives_more (Some x) None c p q first second = absurd first
gives_more (Some x) (Some y) None p q first second = absurd second
gives_more (Some x) (Some y) (Some z) p q first second = first ∙ ap (λ s. p ++ s) second ∙ sym (append_assoc p q z)

-- a front of the bytes was taken, and then a front of what is behind it
pub takes_front : (a b c : Option (List ℕ)) (bytes : List ℕ) (at n : ℕ) → Takes a (take at bytes) b →
    Takes b (take n (take (length bytes - at) (drop at bytes))) c → Takes a (take (at + n) bytes) c
takes_front a b c bytes at n first second =
    let joined : take at bytes ++ take n (take (length bytes - at) (drop at bytes)) ≡ take (at + n) bytes =
    ap (λ s. take at bytes ++ take n s) (take_rest bytes at) ∙ sym (take-add at n bytes)
    in
    let P : List ℕ → Type 0 = λ s. Takes a s c in
    subst P joined (takes_more a b c (take at bytes) (take n (take (length bytes - at) (drop at bytes))) first second)
