-- Each line of a run is in form: by what is said of its kind.
use Rattle.arj_law_parts.proofs.Words
use Words.{◌≡◌, refl, true, false, List, [], ◌∷◌, AllByRecursion, Body, Header, Line, Uid}
use Words.body
use Words.cause
use Rattle.arj_base.specs.Uid.{UidFits}
use Rattle.arj_journal.specs.LineForm.{BodyInForm, LineInForm}
use Rattle.arj_law_parts.specs.steps.Spoken.{is_of_parts}
use Rattle.arj_law_promise.proofs.rooms.Actions.{runs_say_actions}
use Rattle.arj_law_promise.specs.rooms.Actions.{HasIncs, is_of_action}
use Rattle.arj_law_runs.proofs.addresses.Runs.{lines_name}
use Rattle.arj_law_runs.proofs.forms.{Labels.runs_say_labels, World.node_form, World.runs_say_in_form}
use Rattle.arj_law_runs.specs.addresses.Addresses.{IsNode, SaysOf}
use Rattle.arj_law_runs.specs.forms.Labels.{LabelsInForm}
use Rattle.arj_law_runs.specs.forms.World.{IsSaidInForm}
use Rattle.arj_promise.specs.Runs.{HeaderFits, journal_by}
use Rattle.arj_law_cause.proofs.forms.Answers.{OkInForm, runs_say_ok}
use Rattle.arj_law_cause.proofs.forms.Numbers.{runs_say_numbers}
use Rattle.arj_law_cause.proofs.forms.Objects.{LineSo, runs_name_such}
use Rattle.arj_law_cause.proofs.forms.Shows.{ShowInForm, runs_show_in_form}
use Rattle.arj_law_cause.proofs.forms.Ups.{IsUpInForm, runs_say_ups}
use Rattle.arj_law_cause.proofs.numbers.Fits.{BodyNums}
use Rattle.arj_law_cause.proofs.spelled.Askers.{Such, lines_have_uids, such_fits}
use Rattle.arj_law_cause.specs.form.Form.{RunsAreInForm}

-- ---- lines

-- what is known of a line, of whatever kind
record Known (hd : Header) (all : List Line) (b : Body) : Type 0 where
  world : is_of_parts b ≡ false → BodyInForm b
  labels : LabelsInForm b
  node : SaysOf (IsNode hd) b
  action : is_of_action b ≡ true → BodyInForm b
  up : IsUpInForm hd b
  names : LineSo all b
  nums : BodyNums b
  shows : ShowInForm b
  ok : OkInForm b

module _ (hd : Header) (form : HeaderFits hd) (all : List Line) (fit : (u : Uid) → Such all u → UidFits u) where
  body_form : (b : Body) → Known hd all b → BodyInForm b
  body_form (body.Began l k u p) w = w.action refl
  body_form (body.Ok l x o a) w = let k = w.ok in (w.labels, (let n = w.names in n.0), k.0, k.1)
  body_form (body.Includes l x n) w = (w.labels, (let n = w.names in n.0), node_form hd form n w.node)
  body_form (body.Conflict l u m n) w = (w.labels, fit u (let n = w.names in n.0), node_form hd form n w.node)
  body_form (body.Lost l n) w = (w.labels, node_form hd form n w.node)
  body_form (body.Changed l n d) w = (w.labels, node_form hd form n w.node, w.nums)
  body_form (body.Committing l) w = w.labels
  body_form (body.Committed l) w = w.labels
  body_form (body.Ended l) w = w.labels
  body_form (body.Aborted l cause.Asked) w = (w.labels, tt)
  body_form (body.Aborted l cause.Doomed) w = (w.labels, tt)
  body_form (body.Aborted l (cause.Lost n)) w = (w.labels, node_form hd form n w.node)
  body_form (body.Aborted l (cause.NoStores x)) w = (w.labels, (let n = w.names in n.0))
  body_form (body.Aborted l (cause.Listed x n)) w = (w.labels, (let n = w.names in n.0))
  body_form (body.Aborted l (cause.Conflict u m n)) w = (w.labels, (fit u (let n = w.names in n.0), node_form hd form n w.node))
  body_form (body.Aborted l (cause.Changed n d)) w = (w.labels, (node_form hd form n w.node, w.nums))
  body_form (body.Aborted l (cause.Old n x v)) w = (w.labels, (node_form hd form n w.node, (let n = w.names in n.0), w.nums))
  body_form (body.GaveUp l n) w = (w.labels, node_form hd form n w.node)
  body_form (body.Excluded l x n) w = (w.labels, (let n = w.names in n.0), node_form hd form n w.node)
  body_form (body.Granted n u o m) w = let r = (let n = w.names in n.1) in (node_form hd form n w.node, fit u r.0, r.1)
  body_form (body.Lowered n u o) w = let r = (let n = w.names in n.1) in (node_form hd form n w.node, fit u r.0, r.1)
  body_form (body.Bound x b n) w = let k = w.nums in (k.0, k.1, node_form hd form n w.node)
  body_form (body.Active n x b) w = let k = w.nums in (node_form hd form n w.node, k.0, k.1)
  body_form (body.Told n u e p) w = (node_form hd form n w.node, fit u (let n = w.names in n.1))
  body_form (body.Prepared n u r) w = (node_form hd form n w.node, fit u (let n = w.names in n.1))
  body_form (body.Done n u r e) w = (node_form hd form n w.node, fit u (let n = w.names in n.1))
  body_form (body.Up n i) w = (node_form hd form n w.node, w.up w.node)
  body_form (body.Recovered n u) w = w.action refl
  body_form (body.Entry x v s t) w = w.shows
  body_form (body.Copy n x v u p) w = w.shows
  body_form b w = w.world refl

  lines_form : (lines : List Line) → AllByRecursion IsSaidInForm lines → AllByRecursion (λ (line : Line). LabelsInForm line.body) lines →
      AllByRecursion (λ (line : Line). SaysOf (IsNode hd) line.body) lines →
      AllByRecursion (λ (line : Line). is_of_action line.body ≡ true → LineInForm line) lines →
      AllByRecursion (λ (line : Line). IsUpInForm hd line.body) lines → AllByRecursion (λ (line : Line). LineSo all line.body) lines →
      AllByRecursion (λ (line : Line). BodyNums line.body) lines → AllByRecursion (λ (line : Line). ShowInForm line.body) lines →
      AllByRecursion (λ (line : Line). OkInForm line.body) lines → AllByRecursion LineInForm lines
  lines_form [] world labels nodes actions ups names nums shows oks = tt
  lines_form (line ∷ lines) world labels nodes actions ups names nums shows oks = (
    (
      world.0.0,
      body_form line.body (record {
        world = world.0.1;
        labels = labels.0;
        node = nodes.0;
        action = λ one. (actions.0 one).1;
        up = ups.0;
        names = names.0;
        nums = nums.0;
        shows = shows.0;
        ok = oks.0;
      }),
    ),
    lines_form lines world.1 labels.1 nodes.1 actions.1 ups.1 names.1 nums.1 shows.1 oks.1,
  )

pub runs_are_in_form : RunsAreInForm
runs_are_in_form hd r form =
    let has : HasIncs r.start = (let f = r.formed in f.incs) in
    let actions = runs_say_actions hd r form has in
    lines_form hd form.header (journal_by hd r)
    (such_fits (journal_by hd r) (lines_have_uids (journal_by hd r) actions)) (journal_by hd r)
    (runs_say_in_form hd r form) (runs_say_labels hd r form) (lines_name hd form.header r) actions (runs_say_ups hd r form has)
    (runs_name_such hd form.header r) (runs_say_numbers hd r form) (runs_show_in_form hd r form) (runs_say_ok hd r form)
