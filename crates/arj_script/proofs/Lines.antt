-- Lines one after another: splitting off the first, one byte more at the end, and one form more.
use Rattle.std.proofs.Common.{◌≡◌, ℕ, List, [], ◌∷◌, ◌++◌, true, false, refl, sym, ◌∙◌, ap, append_assoc}
use Rattle.std.specs.Prelude.{◌==◌, if◌then◌else◌}
use Rattle.std.specs.List.{list_any}
use Rattle.std.proofs.lemmas.List.{append-nil}
use Rattle.std.proofs.lemmas.Bool.{or_parts, cond-false}
use Rattle.arj_script.specs.Grammar.{Form, Blank, Nodes, FormatOne, Object, Run, Asks}
use Rattle.arj_script.specs.Input.{ended_from, rest_from, events_of}

-- no byte of it is a line feed
abbrev pub HasNoEnd : List ℕ → Type 0
HasNoEnd bytes = list_any (λ b. b == 10) bytes ≡ false

-- The first line ends at the first line feed.
pub ended_from-line : (front piece more : List ℕ) → HasNoEnd piece →
    ended_from front (piece ++ 10 ∷ more) ≡ (front ++ piece) ∷ ended_from [] more
ended_from-line front [] more h = ap (λ line. line ∷ ended_from [] more) (sym (append-nil front))
ended_from-line front (b ∷ piece) more h =
    let parts = or_parts (b == 10) (list_any (λ c. c == 10) piece) h in
    cond-false (b == 10) _ _ parts.0 ∙ (ended_from-line (front ++ b ∷ []) piece more parts.1 ∙ ap (λ line. line ∷ ended_from [] more) (append_assoc front (b ∷ []) piece))

pub rest_from-line : (front piece more : List ℕ) → HasNoEnd piece → rest_from front (piece ++ 10 ∷ more) ≡ rest_from [] more
rest_from-line front [] more h = refl
rest_from-line front (b ∷ piece) more h =
    let parts = or_parts (b == 10) (list_any (λ c. c == 10) piece) h in
    cond-false (b == 10) _ _ parts.0 ∙ rest_from-line (front ++ b ∷ []) piece more parts.1

-- Where no line feed comes, no line ends.
pub ended_from-piece : (front piece : List ℕ) → HasNoEnd piece → ended_from front piece ≡ []
ended_from-piece front [] h = refl
ended_from-piece front (b ∷ piece) h =
    let parts = or_parts (b == 10) (list_any (λ c. c == 10) piece) h in
    cond-false (b == 10) _ _ parts.0 ∙ ended_from-piece (front ++ b ∷ []) piece parts.1

pub rest_from-piece : (front piece : List ℕ) → HasNoEnd piece → rest_from front piece ≡ front ++ piece
rest_from-piece front [] h = sym (append-nil front)
rest_from-piece front (b ∷ piece) h =
    let parts = or_parts (b == 10) (list_any (λ c. c == 10) piece) h in
    cond-false (b == 10) _ _ parts.0 ∙ (rest_from-piece (front ++ b ∷ []) piece parts.1 ∙ append_assoc front (b ∷ []) piece)

-- One byte more at the end.
pub ended_from-push : (front bytes : List ℕ) (b : ℕ) →
    ended_from front (bytes ++ b ∷ []) ≡ ended_from front bytes ++ (if b == 10 then rest_from front bytes ∷ [] else [])
ended_from-push front [] b = refl
ended_from-push front (a ∷ bytes) b =
    let cut = ended_from-push [] bytes b in
    let on = ended_from-push (front ++ a ∷ []) bytes b in
    elim (a == 10) as (λ t. (if t then front ∷ ended_from [] (bytes ++ b ∷ []) else ended_from (front ++ a ∷ []) (bytes ++ b ∷ [])) ≡ (if t then front ∷ ended_from [] bytes else ended_from (front ++ a ∷ []) bytes) ++ (if b == 10 then (if t then rest_from [] bytes else rest_from (front ++ a ∷ []) bytes) ∷ [] else []))
    [ true ↦ ap (λ lines. front ∷ lines) cut | false ↦ on ]

pub rest_from-push : (front bytes : List ℕ) (b : ℕ) →
    rest_from front (bytes ++ b ∷ []) ≡ (if b == 10 then [] else rest_from front bytes ++ b ∷ [])
rest_from-push front [] b = refl
rest_from-push front (a ∷ bytes) b =
    let cut = rest_from-push [] bytes b in
    let on = rest_from-push (front ++ a ∷ []) bytes b in
    elim (a == 10) as (λ t. (if t then rest_from [] (bytes ++ b ∷ []) else rest_from (front ++ a ∷ []) (bytes ++ b ∷ [])) ≡ (if b == 10 then [] else (if t then rest_from [] bytes else rest_from (front ++ a ∷ []) bytes) ++ b ∷ []))
    [ true ↦ cut | false ↦ on ]

-- the events of forms, one list after another
pub events_of-append : (fs gs : List Form) → events_of (fs ++ gs) ≡ events_of fs ++ events_of gs
events_of-append [] gs = refl
events_of-append (Blank ∷ fs) gs = events_of-append fs gs
events_of-append (Nodes n ∷ fs) gs = events_of-append fs gs
events_of-append (FormatOne ∷ fs) gs = events_of-append fs gs
events_of-append (Object o ∷ fs) gs = events_of-append fs gs
events_of-append (Run ∷ fs) gs = events_of-append fs gs
events_of-append (Asks e ∷ fs) gs = ap (λ es. e ∷ es) (events_of-append fs gs)
