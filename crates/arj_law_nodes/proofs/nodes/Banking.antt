-- Runs of the generated bank are runs in form, and show the promise.
use Rattle.arj_law_parts.proofs.Words
use Words.{◌≡◌, ◌++◌, ℕ, List, [], ◌∷◌, length, refl, sym, ◌∙◌, ap, subst, arith, length-append, append-nil, AllByRecursion, length-map}
use Words.{Event}
use Words.body
use Rattle.arj_law_nodes.proofs.Terms
use Terms.{⊎_elim, EventInForm, task, hand, SaysReadings, EndsBehind, ShowsThePromise, Reads}
use Terms.core
use Terms.disk
use Terms.which
use Rattle.arj_bank.specs.Bank.{AreOfBank}
use Rattle.arj_gen.proofs.Counts.{all_counted, bank_fits}
use Rattle.arj_gen.specs.Bank.{bank_header}
use Rattle.arj_journal.specs.ScriptText.{event_text}
use Rattle.arj_law_nodes.proofs.nodes.{Ending.promises_stay, Turning.runs_show, Turning.task_form}
use Rattle.arj_law_nodes.specs.nodes.{Banks.BankFrontsShow, Banks.BankLimitsShow, Banks.BanksShow, Turns.IsTaskInForm}

front_form : (done rest : List Event) → AllByRecursion EventInForm (done ++ rest) → AllByRecursion EventInForm done
front_form [] rest all = tt
front_form (e ∷ done) rest all = (all.0, front_form done rest all.1)

-- a front of the bank's events is a task in form
bank_task : {D : Type 0} (n : ℕ) (first : List D) (events done rest : List Event) → AreOfBank n events → events ≡ done ++ rest →
    IsTaskInForm (task first bank_header done)
bank_task n first events done rest are cut =
    task_form first bank_header done bank_fits (front_form done rest (subst (AllByRecursion EventInForm) cut are.form))
    (omega (arith, length-append done rest, ap length cut, length-map events event_text, ap length are.texts, all_counted n))

module _ {C D : Type 0} (c : core.Ghosts C) (d : disk.Ghosts D) (read : Reads) (says : SaysReadings c read) where
  pub banks_show : BanksShow c d read
  banks_show n first now r =
      let w = r.ran in
      let shows = runs_show c d read says (task first bank_header r.events) w.machine.over (hand w.machine.world now.rack now.journal)
      (bank_task n first r.events r.events [] r.are (sym (append-nil r.events))) w.ran in
      subst (λ over. ShowsThePromise d read (task first bank_header r.events) over now.journal now.rack) w.going shows

  pub bank_limits_show : BankLimitsShow c d read
  bank_limits_show n first now e =
      let a = e.ended in
      promises_stay d read (task first bank_header a.done) a.machine.over a.before now.journal now.rack behind
      (runs_show c d read says (task first bank_header a.done) a.machine.over (hand a.machine.world now.rack a.before)
      (bank_task n first e.events a.done a.rest e.are a.cut) a.ran)
    where
      behind : EndsBehind (let a = e.ended in a.before) now.journal
      behind = let a = e.ended in ⊎_elim (λ frames. ([], tt, frames.same ∙ sym (append-nil a.before)))
          (λ labels. (record { event = a.machine.world.event; body = body.Limit which.Labels } ∷ [], refl, labels.last)) a.limit

  pub bank_fronts_show : BankFrontsShow c d read
  bank_fronts_show n first events rack are f =
      runs_show c d read says (task first bank_header f.done) f.machine.over (hand f.machine.world f.mid f.journal)
      (bank_task n first events f.done f.rest are f.cut) f.ran
