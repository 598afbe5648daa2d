-- The payload of an entry, by its lists.
use Rattle.std.proofs.Common.{◌≡◌, ◌≢◌, ℕ, List, [], ◌∷◌, ◌++◌, Bool, true, false, drop, length, refl, sym, ◌∙◌, ap}
use Rattle.std.specs.Prelude.{MatchBool}
use Rattle.arj_model.specs.Last.{entry_payload}

drop_front : (xs ys : List ℕ) → drop (length xs) (xs ++ ys) ≡ ys
drop_front [] ys = refl
drop_front (x ∷ xs) ys = drop_front xs ys

pub payload_test : (b : Bool) (payload servers stores rest : List ℕ) → payload ≡ length servers ∷ (servers ++ rest) →
    MatchBool b (rest ≡ length stores ∷ stores) (rest ≢ length stores ∷ stores) →
    MatchBool b (payload ≡ entry_payload servers stores) (payload ≢ entry_payload servers stores)
payload_test true payload servers stores rest is same = is ∙ ap (λ r. length servers ∷ (servers ++ r)) same
payload_test false payload servers stores rest is other = λ e.
    other (sym (drop_front servers rest) ∙ ap (λ bytes. drop (length servers) (drop 1 bytes)) (sym is ∙ e) ∙ drop_front servers (length stores ∷ stores))
