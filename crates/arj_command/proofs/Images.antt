-- What a run of `image` shows.
use Rattle.std.proofs.Common.{◌≡◌, inl, inr, ℕ, zero, suc, ◌+◌, ◌≤◌, List, [], ◌∷◌, ◌++◌, length, length-append, map, Option, Some, None, refl, sym, ◌∙◌, ap, subst, arith}
use Rattle.std.specs.List.{AllByRecursion}
use Rattle.std.specs.Prelude.{Bool, true, false, String, get_or, if◌then◌else◌}
use Rattle.std.specs.declared.alloc.Global.{Global}
use Rattle.std.proofs.lemmas.List.{append-nil, length-map}
use Rattle.arj_audit.specs.Calm.{IsCalm}
use Rattle.arj_command.proofs.Causes.{Laws}
use Rattle.arj_command.proofs.Shows.{behind_none, came, ended, facts_of}
use Rattle.arj_command.specs.Command.{IsAudit, IsCheck, IsImage, IsProgram, IsReplay, NamesBank}
use Rattle.arj_command.specs.Facts.{Facts, behind}
use Rattle.arj_command.specs.Images.{CrashesShow, ImageHeadline}
use Rattle.arj_command.specs.Outcome.{CameShows, Said, around, world_of}
use Rattle.arj_core.specs.declared.node.Core as core
use Rattle.arj_disk.specs.declared.disk.Disk as disk
use Rattle.arj_journal.specs.LineText.{text}
use Rattle.arj_journal.specs.ScriptForm.{EventInForm}
use Rattle.arj_journal.specs.declared.body.Line.{Line}
use Rattle.arj_journal.specs.declared.event.Event.{Event}
use Rattle.arj_journal.specs.declared.event.Event.TheVariants as event
use Rattle.arj_journal.specs.declared.header.Header.{Header}
use Rattle.arj_image.specs.declared.image.Image.{Image}
use Rattle.arj_law_images.specs.Saving.{RestingRunsMakeCalmImages}
use Rattle.arj_law_nodes.proofs.nodes.Ending.{promises_stay}
use Rattle.arj_law_nodes.proofs.nodes.Reading.{events_in_form, few_events, header_in_form}
use Rattle.arj_law_nodes.specs.nodes.Last.{EndsBehind}
use Rattle.arj_law_nodes.specs.nodes.Readings.{Reads}
use Rattle.arj_law_nodes.specs.nodes.Turns.{ClosesShow, IsTaskInForm, RunsShow, StopsShow}
use Rattle.arj_law_programs.proofs.Acts.{all_append}
use Rattle.arj_loop.specs.Input.{Arrived, Came, source_view}
use Rattle.arj_loop.specs.Replayed.{Answer, CameTo, Closes, EndsSo, IsCutShort, Outside, StopsShort, answer, outside}
use Rattle.arj_loop.specs.Running.{status_of, why_of}
use Rattle.arj_loop.specs.declared.ending.End.{End}
use Rattle.arj_model.specs.Refusals.{is_down}
use Rattle.arj_nodes.specs.AllNodes.{RanAll, task}
use Rattle.arj_nodes.specs.AsMachine.{all_nodes}
use Rattle.arj_nodes.specs.declared.all_nodes.AllNodes.{AllNodes}
use Rattle.arj_saving.proofs.Crashing.{few_nodes}
use Rattle.arj_saving.proofs.Scripts.{script_ran}
use Rattle.arj_saved.specs.Files.{is_quiet}
use Rattle.arj_law_nodes.proofs.nodes.Turning.{task_form}
use Rattle.arj_saving.specs.Saved.{AllStopped, HasImage, HasUp, RanScript, Saves, header_of, image_of, script_events, stopped_header}
use Rattle.arj_saving.specs.Stops.{ComesSoFar, EndsAtLimit, MeetsLimit, Moment, RunsMore, crashes, moment, no_labels, up_node, up_nodes}
use Rattle.arj_script.specs.Input.{events_of}
use Rattle.arj_start.specs.Start.{fresh}
use Rattle.arj_world.specs.Stands.{hand}

-- ---- words

-- `image` is one word, and another than the other four
pub not_image_bank : (words : List (String Global)) (text : List ℕ) → NamesBank words text → IsImage words → ⊥
not_image_bank [] text names is = names
not_image_bank (word ∷ []) text names is = names
not_image_bank (word ∷ number ∷ []) text names is = is
not_image_bank (word ∷ number ∷ more ∷ words) text names is = names

pub not_image_replay : (words : List (String Global)) → IsReplay words → IsImage words → ⊥
not_image_replay [] replay image = replay
not_image_replay (word ∷ []) replay image = omega (arith, ap (λ bs. get_or bs 0 0) (sym replay ∙ image))
not_image_replay (word ∷ more ∷ words) replay image = replay

pub not_image_check : (words : List (String Global)) → IsCheck words → IsImage words → ⊥
not_image_check [] check image = check
not_image_check (word ∷ []) check image = omega (arith, ap (λ bs. get_or bs 0 0) (sym check ∙ image))
not_image_check (word ∷ more ∷ words) check image = check

pub not_image_program : (words : List (String Global)) → IsProgram words → IsImage words → ⊥
not_image_program [] program image = program
not_image_program (word ∷ []) program image = omega (arith, ap (λ bs. get_or bs 0 0) (sym program ∙ image))
not_image_program (word ∷ more ∷ words) program image = program

pub not_image_audit : (words : List (String Global)) → IsAudit words → IsImage words → ⊥
not_image_audit [] audit image = audit
not_image_audit (word ∷ []) audit image = omega (arith, ap (λ bs. get_or bs 0 0) (sym audit ∙ image))
not_image_audit (word ∷ more ∷ words) audit image = audit

-- ---- crashes in form

abbrev CrashInForm : ℕ → Type 0
CrashInForm n = EventInForm (event.Crash n)

one_in_form : (b : Bool) (n : ℕ) → CrashInForm n → AllByRecursion CrashInForm (if b then [] else n ∷ [])
one_in_form true n form = tt
one_in_form false n form = (form, tt)

ups_in_form : (lines : List Line) (n : ℕ) → n ≤ 16 → AllByRecursion CrashInForm (up_nodes lines n)
ups_in_form lines zero few = tt
ups_in_form lines (suc n) few =
    all_append CrashInForm (up_nodes lines n) (up_node lines (suc n)) (ups_in_form lines n (omega (arith, few)))
    (one_in_form (is_down fresh lines (suc n)) (suc n) (omega (arith, few)))

front_in_form : (done rest : List ℕ) → AllByRecursion CrashInForm (done ++ rest) → AllByRecursion CrashInForm done
front_in_form [] rest all = tt
front_in_form (n ∷ done) rest all = (all.0, front_in_form done rest all.1)

crashes_in_form : (nodes : List ℕ) → AllByRecursion CrashInForm nodes → AllByRecursion EventInForm (crashes nodes)
crashes_in_form [] all = tt
crashes_in_form (n ∷ nodes) all = (all.0, crashes_in_form nodes all.1)

-- ---- what is shown

-- what is behind the lines of events at a limit
behind_limit : {C D : Type 0} (c : core.Ghosts C) (d : disk.Ghosts D) (header : Header) (now : Moment D (AllNodes C)) (journal : List Line) →
    EndsAtLimit (all_nodes c d) header now journal → EndsBehind now.journal journal
behind_limit c d header now journal (inl (over, ends, is)) = subst (λ ls. EndsBehind now.journal ls) (sym is) (behind_none c d now.journal)
behind_limit c d header now journal (inr (going, full, is)) = (no_labels (let n = now.machine in let w = n.world in w.event) ∷ [], refl, is)

-- what is outside of a run whose sink doesn't tell
abbrev untold : {D : Type 0} → Outside D → Outside D
untold o = outside o.left o.faults None o.rack

module _ {C D : Type 0} (c : core.Ghosts C) (d : disk.Ghosts D) (read : Reads) (laws : Laws c d) where
  module _ (show : RunsShow c d read) (given : Arrived) (first : List D) (before : Moment D (AllNodes C)) (ups : List ℕ)
      (u : HasUp (all_nodes c d) given first before ups) where
    -- the script, and behind it crashes of the first of these nodes
    crash_task : (done rest : List ℕ) → ups ≡ done ++ rest → (let s = u.script in
        IsTaskInForm (task first (header_of (all_nodes c d) given first before s) (script_events (all_nodes c d) given first before s ++ crashes done)))
    crash_task done rest cut =
        let s = u.script in
        let r = s.reached in
        let t = r.stage in
        let runs = t.machine_is in
        let header = header_in_form r.done t.forms r.place t.header t.read runs.1 in
        let few : length ups ≤ 16 = let most = header.nodes in omega (arith, ap length u.ups_are, few_nodes before.journal (let h = t.header in h.nodes), most.1) in
        let form = subst (AllByRecursion CrashInForm) (sym u.ups_are ∙ cut) (ups_in_form before.journal (let h = t.header in h.nodes) (let most = header.nodes in most.1)) in
        task_form first t.header (events_of t.forms ++ crashes done) header
        (all_append EventInForm (events_of t.forms) (crashes done) (events_in_form r.done t.forms _ r.place t.read)
        (crashes_in_form done (front_in_form done rest form)))
        (omega (arith, length-append (events_of t.forms) (crashes done), length-map done (λ n. event.Crash n), few_events t.forms, t.counted, t.within, few, ap length cut, length-append done rest))

    crash_facts : (done rest : List ℕ) → ups ≡ done ++ rest → (now : Moment D (AllNodes C)) → RunsMore (all_nodes c d) (crashes done) before now →
        (journal : List Line) → EndsBehind now.journal journal → CrashesShow c d read given first before ups u done now journal
    crash_facts done rest cut now ran journal last =
        let s = u.script in
        let t = task first (header_of (all_nodes c d) given first before s) (script_events (all_nodes c d) given first before s ++ crashes done) in
        let whole = ran first (header_of (all_nodes c d) given first before s) (script_events (all_nodes c d) given first before s)
        (script_ran (all_nodes c d) given first before s) in
        facts_of c d read laws t now.machine now.rack now.journal journal last whole
        (promises_stay d read t (let n = now.machine in n.over) now.journal journal now.rack last
        (show t (let n = now.machine in n.over) (hand (let n = now.machine in n.world) now.rack now.journal) (crash_task done rest cut) whole))

  -- an image of stopped nodes with nothing prepared and no record is calm
  calm_image : RunsShow c d read → RestingRunsMakeCalmImages c d → (given : Arrived) (first : List D) (last : Moment D (AllNodes C)) (image : Image)
      (after : List D) (s : AllStopped (all_nodes c d) given first last) →
      HasImage (all_nodes c d) d (stopped_header (all_nodes c d) given first last s) last after image → is_quiet image.files ≡ true → IsCalm image
  calm_image show resting given first last image after s has quiet =
      let u = s.up in
      let sc = u.script in
      let a = s.crashed in
      let hd = header_of (all_nodes c d) given first s.before sc in
      let t = task first hd (script_events (all_nodes c d) given first s.before sc ++ crashes s.ups) in
      let now = hand (let n = last.machine in n.world) last.rack last.journal in
      let whole : RanAll c d t (let n = last.machine in n.over) now = a.ran first hd (script_events (all_nodes c d) given first s.before sc)
      (script_ran (all_nodes c d) given first s.before sc) in
      let files_are = ap (λ (i : Image). i.files) has.image_is in
      subst IsCalm (sym has.image_is) (subst (λ n. IsCalm (image_of hd n last.journal has.files)) (sym whole.counted)
      (resting first hd (script_events (all_nodes c d) given first s.before sc ++ crashes s.ups) now has.files (crash_task show given first s.before s.ups s.up s.ups [] (sym (append-nil s.ups)))
      (subst (λ over. RanAll c d t over now) a.going whole) s.down has.files_are (sym (ap is_quiet files_are) ∙ quiet)))

  -- the script's run, however it ended
  module _ (before after : Outside D) (given : Arrived) (reads : Came (source_view before.left before.faults) (source_view after.left after.faults) given) where
    abbrev as_closes : (end : End) (journal : List Line) (e : EndsSo (all_nodes c d) given before.rack after.rack end journal) →
        Closes (all_nodes c d) (untold before) (untold after) (answer (status_of end) (why_of end) journal (let at = e.at in at.machine))
    as_closes end journal e = record {
      given = given;
      reads = reads;
      end = end;
      status_is = refl;
      why_is = refl;
      ends = e;
      machine_is = refl;
      wrote = tt;
    }

    abbrev as_short : (journal : List Line) (r : CameTo (all_nodes c d) given before.rack after.rack 5 journal) →
        IsCutShort (all_nodes c d) given before.rack after.rack 5 journal r → StopsShort (all_nodes c d) (untold before) (untold after) 5
    as_short journal r cut = record {
      given = given;
      journal = journal;
      reads = reads;
      run = r;
      cut = λ five. cut;
      wrote = (length (text journal), tt, λ five. refl);
    }

  pub image_headline : RunsShow c d read → RestingRunsMakeCalmImages c d → ClosesShow c d read → StopsShow c d read → (before after : Outside D) (says : Said C) (nodes : Option (AllNodes C)) →
      Saves (all_nodes c d) d before after (answer says.status says.why says.journal nodes) → says.world ≡ world_of nodes →
      ImageHeadline c d read (around before after) says
  image_headline show resting closes stops before after says nodes run world = record {
    nodes = nodes;
    run = run;
    world_is = world;
    ended = λ end journal all e is.
        ended c d read laws run.given before.rack after.rack end journal e all is
        (closes (untold before) (untold after)
        (answer (status_of end) (why_of end) journal (let at = e.at in at.machine)) (as_closes before after run.given run.reads end journal e) all is);
    cut = λ journal r short.
        came c d read laws run.given before.rack after.rack 5 journal r
        (stops (untold before) (untold after) 5 (as_short before after run.given run.reads journal r short));
    stopped = λ last s.
        let a = s.crashed in
        crash_facts show run.given before.rack s.before s.ups s.up s.ups [] (sym (append-nil s.ups)) last a.ran last.journal (behind_none c d last.journal);
    calm = λ last image s has quiet. calm_image show resting run.given before.rack last image after.rack s has quiet;
    limited = λ now ups machine u l.
        let s = u.script in
        crash_facts show run.given before.rack now ups u l.done l.rest l.cut (moment after.rack machine l.lines) l.ran says.journal
        (behind_limit c d (header_of (all_nodes c d) run.given before.rack now s) (moment after.rack machine l.lines) says.journal
        (l.ends before.rack (header_of (all_nodes c d) run.given before.rack now s) (script_events (all_nodes c d) run.given before.rack now s)
        (script_ran (all_nodes c d) run.given before.rack now s)));
    short = λ now ups rack u s.
        let n = s.now in
        crash_facts show run.given before.rack now ups u s.done s.rest s.cut s.now s.ran n.journal (behind_none c d n.journal);
  }
