-- Events that are put behind others.
use Rattle.std.specs.Prelude.{◌≡◌, ℕ, List, ◌++◌, map}
use Rattle.std.specs.List.{AllByRecursion}
use Rattle.arj_journal.specs.declared.event.Event.{Event}
use Rattle.arj_journal.specs.ScriptForm.{EventInForm}
use Rattle.arj_journal.specs.ScriptText.{event_text}

-- The events say these lines more, and stay in form.
pub record SaysMore (before after : List Event) (lines : List (List ℕ)) : Type 0 where
  pub texts : map event_text after ≡ map event_text before ++ lines
  pub form : AllByRecursion EventInForm before → AllByRecursion EventInForm after
