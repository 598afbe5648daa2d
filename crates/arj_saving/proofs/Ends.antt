-- How the run of a script ended.
use Rattle.std.proofs.Common.{◌≡◌, ◌≢◌, ◌⊎◌, inl, inr, ℕ, List, [], ◌∷◌, ◌++◌, Option, Some, None, refl, sym, ◌∙◌, subst, arith}
use Rattle.std.proofs.Math.Logic.{⊎_elim}
use Rattle.std.proofs.lemmas.List.{append-nil}
use Rattle.arj_base.specs.Count.{Rose}
use Rattle.arj_disk.specs.declared.disk.Disk as disk
use Rattle.arj_journal.specs.declared.body.Line.{Line}
use Rattle.arj_loop.specs.Input.{Arrived, Came, SourceView, script_of}
use Rattle.arj_loop.specs.Replayed.{Answer, Closes, EndsSo, Outside, StopsShort}
use Rattle.arj_loop.specs.Running.{Hand, Held, MachineRuns, Reached, events_run, hand, held_by, last_body, last_lines, status_of}
use Rattle.arj_loop.specs.declared.ending.End.{End}
use Rattle.arj_loop.specs.declared.ending.End.TheVariants as ending
use Rattle.arj_loop.specs.declared.machine.Machine.{Ghosts}
use Rattle.arj_loop.proofs.Statuses.{is_format}
use Rattle.arj_saving.specs.Saved.{IsCutOff, RanScript, SaysEnd, SaysLast, StopsAtFormat, WantsMemory}
use Rattle.arj_saving.specs.Stops.{moment}

-- ---- which end

is_whole : (end : End) → status_of end ≡ 0 → end ≡ ending.Whole
is_whole ending.Whole e = refl
is_whole (ending.Bad w) e = absurd (omega (arith, e))
is_whole ending.Fault e = absurd (omega (arith, e))
is_whole ending.Write e = absurd (omega (arith, e))
is_whole ending.Memory e = absurd (omega (arith, e))
is_whole ending.Lines e = absurd (omega (arith, e))
is_whole ending.Labels e = absurd (omega (arith, e))
is_whole ending.Frames e = absurd (omega (arith, e))
is_whole ending.Format e = absurd (omega (arith, e))

is_fault : (end : End) → status_of end ≡ 3 → end ≡ ending.Fault
is_fault ending.Fault e = refl
is_fault ending.Whole e = absurd (omega (arith, e))
is_fault (ending.Bad w) e = absurd (omega (arith, e))
is_fault ending.Write e = absurd (omega (arith, e))
is_fault ending.Memory e = absurd (omega (arith, e))
is_fault ending.Lines e = absurd (omega (arith, e))
is_fault ending.Labels e = absurd (omega (arith, e))
is_fault ending.Frames e = absurd (omega (arith, e))
is_fault ending.Format e = absurd (omega (arith, e))

-- a journal has a last line
abbrev pub HasLast : List Line → Type 0
HasLast journal = (front : List Line) × (last : Line) × (journal ≡ front ++ last ∷ [])

module _ {D M : Type 0} (m : Ghosts M D) where
  -- ---- the whole script was run

  -- there is a machine, and so it was
  pub record RanWhole (given : Arrived) (first rack : List D) (journal : List Line) (machine : Option M) : Type 0 where
    pub made : M
    pub machine_is : machine ≡ Some made
    pub script : RanScript m given first (moment rack made journal)

  whole_of : (given : Arrived) (first mid after : List D) (at : Hand M) (journal : List Line) → Reached m first mid (script_of given) at ending.Whole
      → after ≡ mid → journal ≡ at.journal ++ [] → RanWhole given first after journal at.machine
  whole_of given first mid after at journal r racks is = by at.machine refl
    where
      by : (o : Option M) → at.machine ≡ o → RanWhole given first after journal o
      by None none =
          let s = r.stage in
          let why = r.why in
          let runs = subst (λ o. MachineRuns m first mid s.forms r.place s.header at.journal o) none s.machine_is in
          absurd (runs.0 why.2)
      by (Some made) some = record {
        made = made;
        machine_is = refl;
        script = record {
          count = at.count;
          reached = subst (λ ls. Reached m first after (script_of given) (hand (Some made) at.count ls) ending.Whole) (sym (append-nil at.journal) ∙ sym is)
              (subst (λ rack. Reached m first rack (script_of given) (hand (Some made) at.count at.journal) ending.Whole) (sym racks)
              (subst (λ o. Reached m first mid (script_of given) (hand o at.count at.journal) ending.Whole) some r));
        };
      }

  -- the disks are those of the last event, but where a format was stopped
  same_rack : (given : Arrived) (first after : List D) (end : End) (journal : List Line) (e : EndsSo m given first after end journal) →
      end ≢ ending.Format → after ≡ e.mid
  same_rack given first after end journal e other = ⊎_elim (λ stopped. absurd (other stopped.0)) (λ same. same.1) e.racks

  -- ---- it ended before

  last_by : (end : End) (at : Hand M) (first rack : List D) (given : Arrived) (r : Reached m first rack (script_of given) at end) (journal : List Line)
      → (status_of end ≡ 2) ⊎ (status_of end ≡ 6) → journal ≡ at.journal ++ last_lines (last_body end at.count) (events_run m at.machine) → HasLast journal
  last_by (ending.Bad w) at first rack given r journal status is = (at.journal, _, is)
  last_by ending.Lines at first rack given r journal status is = (at.journal, _, is)
  last_by ending.Labels at first rack given r journal status is = (at.journal, _, is)
  last_by ending.Frames at first rack given r journal status is =
      let why = r.why in
      let ends = why.1 in
      (ends.0, ends.1, is ∙ append-nil at.journal ∙ ends.2)
  last_by ending.Whole at first rack given r journal status is = absurd (⊎_elim (λ e. omega (arith, e)) (λ e. omega (arith, e)) status)
  last_by ending.Fault at first rack given r journal status is = absurd (⊎_elim (λ e. omega (arith, e)) (λ e. omega (arith, e)) status)
  last_by ending.Write at first rack given r journal status is = absurd (⊎_elim (λ e. omega (arith, e)) (λ e. omega (arith, e)) status)
  last_by ending.Memory at first rack given r journal status is = absurd (⊎_elim (λ e. omega (arith, e)) (λ e. omega (arith, e)) status)
  last_by ending.Format at first rack given r journal status is = absurd (⊎_elim (λ e. omega (arith, e)) (λ e. omega (arith, e)) status)

  pub has_last : (before after : Outside D) (a : Answer M) (closes : Closes m before after a) → (a.status ≡ 2) ⊎ (a.status ≡ 6) → HasLast a.journal
  has_last before after a closes status =
      let e = closes.ends in
      last_by closes.end e.at before.rack e.mid closes.given e.reached a.journal
      (⊎_elim (λ two. inl (sym closes.status_is ∙ two)) (λ six. inr (sym closes.status_is ∙ six)) status) e.journal_is

  pub has_ended : (d : disk.Ghosts D) (before after : Outside D) (a : Answer M) (closes : Closes m before after a) →
      WantsMemory m d closes.given before.rack after.rack
  has_ended d before after a closes = inr (inl (closes.end, a.journal, closes.ends))

  pub says_end : (before after : Outside D) (a : Answer M) (closes : Closes m before after a) → (a.status ≡ 2) ⊎ (a.status ≡ 6) →
      (text : List ℕ) (status : ℕ) → status ≡ a.status → SaysLast a.journal text →
      SaysEnd m closes.given before.rack (held_by after.rack a.machine a.journal) a.why (text, status)
  says_end before after a closes which text status is last = record {
    end = closes.end;
    status_is = is ∙ closes.status_is;
    only = ⊎_elim (λ two. inl (is ∙ two)) (λ six. inr (is ∙ six)) which;
    why_is = closes.why_is;
    ends = closes.ends;
    machine_is = closes.machine_is;
    last = last;
  }

  -- the end, with what it leaves
  pub record EndsWith (given : Arrived) (first : List D) (now : Held D M) (end : End) : Type 0 where
    pub ends : EndsSo m given first now.rack end now.journal
    pub machine_is : now.machine ≡ (let at = ends.at in at.machine)

  ends_with : (before after : Outside D) (a : Answer M) (closes : Closes m before after a) →
      EndsWith closes.given before.rack (held_by after.rack a.machine a.journal) closes.end
  ends_with before after a closes = record { ends = closes.ends; machine_is = closes.machine_is }

  pub cut_off : (before after : Outside D) (a : Answer M) (closes : Closes m before after a) → a.status ≡ 3 →
      IsCutOff m closes.given before.rack (held_by after.rack a.machine a.journal)
  cut_off before after a closes is =
      let w = subst (EndsWith closes.given before.rack (held_by after.rack a.machine a.journal)) (is_fault closes.end (sym closes.status_is ∙ is)) (ends_with before after a closes) in
      record { ends = w.ends; machine_is = w.machine_is }

  pub at_format : (before after : Outside D) (a : Answer M) (closes : Closes m before after a) → a.status ≡ 7 →
      StopsAtFormat m closes.given before.rack (held_by after.rack a.machine a.journal)
  at_format before after a closes is =
      let w = subst (EndsWith closes.given before.rack (held_by after.rack a.machine a.journal)) (is_format closes.end (sym closes.status_is ∙ is)) (ends_with before after a closes) in
      record { ends = w.ends; machine_is = w.machine_is }

  pub ran_whole : (before after : Outside D) (a : Answer M) (closes : Closes m before after a) → a.status ≡ 0 →
      RanWhole closes.given before.rack after.rack a.journal a.machine
  ran_whole before after a closes is =
      let w = subst (EndsWith closes.given before.rack (held_by after.rack a.machine a.journal)) (is_whole closes.end (sym closes.status_is ∙ is)) (ends_with before after a closes) in
      let e = w.ends in
      subst (λ o. RanWhole closes.given before.rack after.rack a.journal o) (sym w.machine_is)
      (whole_of closes.given before.rack e.mid after.rack e.at a.journal e.reached (same_rack closes.given before.rack after.rack ending.Whole a.journal e (λ f. absurd (cc f))) e.journal_is)

  -- ---- memory was wanting

  pub cut_short : (d : disk.Ghosts D) (before after : Outside D) → (s : StopsShort m before after 5) →
      WantsMemory m d s.given before.rack after.rack
  cut_short d before after s = inl (s.journal, s.run, s.cut refl)

  -- ---- a read failed

  pub read_failed : (given : Arrived) (first : List D) (now : Held D M) (before after : SourceView) → Came before after given →
      IsCutOff m given first now → Rose before.faults after.faults
  read_failed given first now before after came cut =
      let e = cut.ends in
      let r = e.reached in
      let why = r.why in
      came.at_fault why.0
