-- What holds of every call: the order of its requests, and what a root keeps.
use Rattle.std.specs.Prelude.{◌≡◌, ◌⊎◌, ℕ, Bool, true, false, [], Option, Some, None, ⊤}
use Rattle.arj_protocol.specs.Ask.{ask_kind}
use Rattle.arj_protocol.specs.Call.{Known, Goal, At, AtBind, AtLoad, AtActivate, AtNote, AtInvoke, CallStep, On, Ended, ask_at}
use Rattle.arj_protocol.specs.Order.{binding_less}

-- the kind of the request that waits: 1 bind, 2 load, 3 activate, 4 record, 5 invoke
abbrev pub kind_at : At → ℕ
kind_at a = ask_kind (ask_at 0 (Goal.Include 0) [] a)

-- after a bind a load or the invoke, then activate, record and invoke
abbrev pub follows : At → At → Bool
follows (AtBind avoid) (AtLoad k s rest) = true
follows (AtBind avoid) (AtInvoke k i) = true
follows (AtLoad k s rest) (AtActivate l st) = true
follows (AtActivate k st) (AtNote l i) = true
follows (AtNote k i) (AtInvoke l j) = true
follows _ _ = false

-- the request that waits next
abbrev pub IsNext : At → CallStep → Type 0
IsNext a (On b) = follows a b ≡ true
IsNext a (Ended e) = ⊤

-- a load to another store
abbrev pub IsAgain : At → CallStep → Type 0
IsAgain a (On b) = (kind_at a ≡ 2) × (kind_at b ≡ 2)
IsAgain a (Ended e) = ⊤

-- The kept binding stays, with the incarnation that was named first for it, or a greater one replaces it.
abbrev pub StaysOrRises : Known → Known → Type 0
StaysOrRises old new =
    (binding_less old.binding new.binding ≡ true)
    ⊎ ((new.binding ≡ old.binding) × ((i : ℕ) → old.inc ≡ Some i → new.inc ≡ Some i))

-- the same of what is kept, which isn't given up by an answer
abbrev pub KeepsOn : Option Known → Option Known → Type 0
KeepsOn None new = ⊤
KeepsOn (Some old) None = ⊥
KeepsOn (Some old) (Some new) = StaysOrRises old new
