-- Lines that say bindings, incarnations and versions are in form in every run: no node's incarnation and no count of bindings passes 32 bits.
use Rattle.arj_law_parts.proofs.Words
use Words.{List, [], ◌∷◌, AllByRecursion, Ask, Body, Header, Line, Reply, Seen}
use Words.ask
use Words.body
use Words.prepared
use Rattle.arj_law_promise.proofs.Terms
use Terms.{KeepsAsked, asked_both, keeps_asked}
use Rattle.arj_law_promise.specs.rooms.Actions.{HasIncs}
use Rattle.arj_law_runs.proofs.addresses.Runs.{lines_name}
use Rattle.arj_law_runs.proofs.bindings.Events.{moves_few}
use Rattle.arj_law_runs.proofs.calls.MadeLines.{counts_are_said}
use Rattle.arj_law_runs.specs.addresses.Addresses.{IsNode, SaysOf}
use Rattle.arj_law_runs.specs.calls.Bindings.{AreSaid}
use Rattle.arj_promise.specs.Runs.{HeaderFits, IsInForm, Run, journal_by}
use Rattle.arj_law_cause.proofs.forms.Ups.{IsUpInForm, runs_say_ups}
use Rattle.arj_law_cause.proofs.numbers.Fits.{BodyNums, VersionFits}
use Rattle.arj_law_cause.proofs.numbers.Nodes.{IsOfObject}
use Rattle.arj_law_cause.proofs.numbers.Runs.{NumsWhere, UpFits, numbers_keep}
use Rattle.arj_law_cause.proofs.spelled.Commits.{object_number}
use Rattle.arj_law_cause.proofs.spelled.Messages.{Saves, fits, good_of, ready_in_form, said_of, saved_keep}
use Rattle.arj_law_cause.proofs.spelled.Saves.{ReplySays}
use Rattle.arj_law_promise.specs.meant.Meant.{AskFits}
use Rattle.arj_law_cause.proofs.spelled.Saving.{FirstsRestore}

-- ---- what is known

module _ (hd : Header) (form : HeaderFits hd) where
  abbrev Base : Seen → Type 0
  Base M = Saves hd form M × AreSaid M

  base_keep : KeepsAsked hd Base
  base_keep = asked_both hd (Saves hd form) AreSaid (saved_keep hd form) (keeps_asked hd AreSaid (counts_are_said hd))

  object_of : (a : Ask) → AskFits hd a → IsOfObject a
  object_of (ask.Bind x include avoid) its = object_number hd form x its
  object_of (ask.Activate b st) its = object_number hd form st.uid.num its.0
  object_of a its = tt

  version_of : (A : Type 0) (r : Reply) → ReplySays A r → VersionFits r
  version_of A (Reply.Prepared (prepared.Old x v)) its = its
  version_of A r its = tt

  keep : KeepsAsked hd (λ M. Base M × NumsWhere M)
  keep = numbers_keep hd Base base_keep
      (λ M all p h a there is. object_of a (let s = said_of hd form M (let z = all.0 in z.0) in fits hd form M s.0.0 p h a there is))
      (λ M all ready p a r there is.
      version_of (FirstsRestore hd M.start) r (let z = all.0 in let saved = z.1 ready in (saved.1 p there).1 a r is))
      (λ M all. all.1)

-- ---- runs

ups_fit : (hd : Header) (ls : List Line) → AllByRecursion (λ (line : Line). IsUpInForm hd line.body) ls →
    AllByRecursion (λ (line : Line). SaysOf (IsNode hd) line.body) ls → AllByRecursion (λ (line : Line). UpFits line.body) ls
ups_fit hd [] ups nodes = tt
ups_fit hd (l ∷ ls) ups nodes = (one l.body ups.0 nodes.0, ups_fit hd ls ups.1 nodes.1)
  where
    one : (b : Body) → IsUpInForm hd b → SaysOf (IsNode hd) b → UpFits b
    one (body.Up n i) up node = up node
    one b up node = tt

-- so it is of each line of a run
pub runs_say_numbers : (hd : Header) (r : Run hd) → IsInForm hd r → AllByRecursion (λ (line : Line). BodyNums line.body) (journal_by hd r)
runs_say_numbers hd r form =
    let header = form.header in
    let h = ready_in_form hd (λ M. Base hd header M × NumsWhere M) (keep hd header) (λ M all. good_of hd header M (let z = all.0 in z.0.0)) r form in
    let k = h.holds in
    let has : HasIncs r.start = (let f = r.formed in f.incs) in
    let all = k.0.1 (record {
      ups = ups_fit hd (journal_by hd r) (runs_say_ups hd r form has) (lines_name hd header r);
      few = moves_few hd r form.few;
      ready = k.1;
    }) in
    all.2
