-- What may be fixed of an object in codes that tell values apart.
use Rattle.std.specs.Prelude.{ℕ, List}
use Rattle.arj_model.specs.Serial.{Values}
use Rattle.arj_start.specs.Start.{Marks}
use Rattle.arj_law_parts.specs.parts.Actions.{Action}
use Rattle.arj_law_lock_view.specs.running.Fixed.{AgreesBy, BeginsAs, Fixed}
use Rattle.arj_law_serial.specs.order.Tied.{AreApart}
use Rattle.arj_promise.specs.Runs.{Post}

-- the object begins so, with these marks, and values are told apart
abbrev pub IsApt : Values → ℕ → Marks → Fixed → Type 0
IsApt values x marks f = BeginsAs values marks x f × AreApart f.code

-- it agrees with what was done so far, and is so
abbrev pub AgreesApart : Values → Marks → Fixed → ℕ → List Action → List Post → Type 0
AgreesApart values marks f x begun sent = AgreesBy (IsApt values x marks) f x begun sent
