-- Which events have no text among those that were tried.
use Rattle.std.proofs.Common.{◌≢◌, ℕ, List, codes, false, None, refl}
use Rattle.std.specs.Fmt.{decimal}
use Rattle.std.proofs.lemmas.Bool.{both_ways}
use Rattle.arj_journal.specs.declared.event.Event.{Event}
use Rattle.arj_journal.specs.declared.event.Event.TheVariants as event
use Rattle.arj_text.specs.Fields.{IsRead, ShortInForm, WordInForm, behind}
use Rattle.arj_text.specs.Label.{LabelInForm, name}
use Rattle.arj_journal.specs.ScriptText.{event_text}
use Rattle.arj_script.specs.Events.{CallInForm, IncludeInForm, IsBeginning, IsOutside, IsWorking, JunkInForm, LabelAtInForm, LabelInLabel}
use Rattle.arj_script.specs.Events.{StopInForm, call_text, include_text, junk_text, label_at_text, label_in_text, stop_text}

pub no_beginning : (bytes : List ℕ) → IsRead LabelAtInForm (label_at_text (codes "begin ")) bytes None →
    IsRead LabelInLabel (label_in_text (codes "begin ")) bytes None → IsRead LabelInLabel (label_in_text (codes "top ")) bytes None →
    IsRead LabelAtInForm (label_at_text (codes "serial ")) bytes None → IsRead IsBeginning event_text bytes None
no_beginning bytes begins nests tops serials = λ e h same. cases e h same
  where
    cases : (e : Event) → IsBeginning e → bytes ≢ event_text e
    cases (event.Begin l n) h same = begins (l, n) h.0 same
    cases (event.BeginIn l p) h same = nests (l, p) h.0 same
    cases (event.Top l p) h same = tops (l, p) h.0 same
    cases (event.Serial l n) h same = serials (l, n) h.0 same
    cases _ h same = both_ways false refl h.1

pub no_working : (bytes : List ℕ) → IsRead CallInForm call_text bytes None → IsRead IncludeInForm include_text bytes None →
    IsRead LabelInForm (behind (codes "commit ") name) bytes None → IsRead LabelInForm (behind (codes "abort ") name) bytes None →
    IsRead LabelInForm (behind (codes "giveup ") name) bytes None → IsRead IsWorking event_text bytes None
no_working bytes calls includes commits aborts giveups = λ e h same. cases e h same
  where
    cases : (e : Event) → IsWorking e → bytes ≢ event_text e
    cases (event.Call l x op) h same = calls (l, x, op) (h.0.0, h.0.1, h.0.2) same
    cases (event.Include l x n) h same = includes (l, x, n) (h.0.0, h.0.1, h.0.2) same
    cases (event.Commit l) h same = commits l h.0 same
    cases (event.Abort l) h same = aborts l h.0 same
    cases (event.GiveUp l) h same = giveups l h.0 same
    cases _ h same = both_ways false refl h.1

pub no_outside : (bytes : List ℕ) → IsRead WordInForm (behind (codes "crash ") decimal) bytes None →
    IsRead WordInForm (behind (codes "restart ") decimal) bytes None → IsRead StopInForm stop_text bytes None →
    IsRead JunkInForm junk_text bytes None → IsRead ShortInForm (behind (codes "show ") decimal) bytes None →
    IsRead IsOutside event_text bytes None
no_outside bytes crashes restarts stops junks shows = λ e h same. cases e h same
  where
    cases : (e : Event) → IsOutside e → bytes ≢ event_text e
    cases (event.Crash n) h same = crashes n h.0 same
    cases (event.Restart n) h same = restarts n h.0 same
    cases (event.Stop n calls kind) h same = stops (n, calls, kind) (h.0.0, h.0.1, h.0.2) same
    cases (event.Junk n sent) h same = junks (n, sent) h.0 same
    cases (event.Show x) h same = shows x h.0 same
    cases _ h same = both_ways false refl h.1
