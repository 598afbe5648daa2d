-- What is known of a place: the header that was read is in form.
use Rattle.std.specs.Prelude.{⊤}
use Rattle.arj_journal.specs.ScriptForm.{HeaderInForm}
use Rattle.arj_prog.specs.declared.place.Place.{Place}
use Rattle.arj_prog.specs.declared.place.Place.TheVariants.{Seeded, Drafting}

-- the header that was read is in form
abbrev pub PlaceInForm : Place → Type 0
PlaceInForm (Seeded header seed) = HeaderInForm header
PlaceInForm (Drafting d) = HeaderInForm d.header
PlaceInForm _ = ⊤
