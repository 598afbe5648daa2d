-- Locks on entries that were had by lines, and what plans of commits use by lines: as lines come it stays so.
use Rattle.arj_law_parts.proofs.Words
use Words.{◌≡◌, ◌≤◌, ◌∙◌, ◌++◌, ℕ, true, false, List, [], sym, ap, subst, append_assoc, Line, Start, Uid, entry, first_uid, is_on}
use Words.{uid_eq, In, Used}
use Words.mode
use Rattle.arj_law_runs.proofs.calls.WholeRuns.{few_before}
use Rattle.arj_law_runs.proofs.journal.Models.{in_later}
use Rattle.arj_law_runs.specs.calls.Bindings.{HasFewBindings}
use Rattle.arj_law_runs.specs.journal.Book.{book}
use Rattle.arj_law_runs.specs.journal.Right.{has_act}
use Rattle.arj_law_serial.proofs.Terms.{Act, AreDistinct, acts, acts_more, path, path_by, uids}
use Rattle.arj_law_serial.proofs.order.Paths.{found}
use Rattle.arj_model.specs.CauseAnswers.{has_lock}
use Rattle.arj_model.specs.CausePends.{unit_uses}
use Rattle.arj_model.specs.Refusals.{incarnation}
use Rattle.arj_promise.specs.Starts.{next_inc}
use Rattle.arj_law_cause.proofs.bindings.{Lines.IsLined, Since.IsActiveIn}
use Rattle.arj_law_cause.proofs.confirm.{Joined.early_before, Uses.unit_more}
use Rattle.arj_law_cause.specs.rows.Early.{IsEarly}
use Rattle.arj_law_cause.proofs.rows.Entered.{by_stays, distinct_before}
use Rattle.arj_law_cause.proofs.rows.{Holders.any_later, Paths.path_stays}

-- At a place of the journal the top had a lock on the object's entry, while naming's node was in this incarnation, in which it was up.
pub record WasHad (st : Start) (ls : List Line) (top : Uid) (x g : ℕ) : Type 0 where
  pub before : List Line
  pub after : List Line
  pub are : ls ≡ before ++ after
  pub lock : has_lock 1 top (entry x) mode.Read before ≡ true
  pub inc : incarnation st before 1 ≡ g
  pub since : next_inc st 1 ≤ g

pub had_more : (st : Start) (ls ms : List Line) (top : Uid) (x g : ℕ) → WasHad st ls top x g → WasHad st (ls ++ ms) top x g
had_more st ls ms top x g h = record {
  before = h.before;
  after = h.after ++ ms;
  are = (λ i. h.are i ++ ms) ∙ append_assoc h.before h.after ms;
  lock = h.lock;
  inc = h.inc;
  since = h.since;
}

-- so it had, and it began, in a root of this number
pub record HadIn (st : Start) (ls : List Line) (root : ℕ) (top : Uid) (x g : ℕ) : Type 0 where
  pub had : WasHad st ls top x g
  pub there : has_act (acts ls) top ≡ true
  pub of : AreDistinct (acts ls) → (let u = first_uid (uids (path_by (acts ls) top)) in u.num) ≡ root

-- a path stays as more lines come
pub path_still : (ls ms : List Line) → AreDistinct (acts (ls ++ ms)) → (u : Uid) → has_act (acts ls) u ≡ true →
    path_by (acts (ls ++ ms)) u ≡ path_by (acts ls) u
path_still ls ms distinct u there = ap (λ xs. path_by xs u) (acts_more [] ls ms)
    ∙ by_stays (acts ls) ms (subst AreDistinct (acts_more [] ls ms) distinct) u there

pub distinct_still : (ls ms : List Line) → AreDistinct (acts (ls ++ ms)) → AreDistinct (acts ls)
distinct_still ls ms distinct = distinct_before (acts ls) ms (subst AreDistinct (acts_more [] ls ms) distinct)

pub had_in_more : (st : Start) (ls ms : List Line) (root : ℕ) (top : Uid) (x g : ℕ) → HadIn st ls root top x g →
    HadIn st (ls ++ ms) root top x g
had_in_more st ls ms root top x g h = record {
  had = had_more st ls ms top x g h.had;
  there = any_later (λ (a : Act). uid_eq a.uid top) ls ms h.there;
  of = λ distinct. ap (λ p. (let u = first_uid (uids p) in u.num)) (path_still ls ms distinct top h.there) ∙ h.of (distinct_still ls ms distinct);
}

-- the action with this Uid began, and its unit uses the object
abbrev pub UsesIn : List Line → Uid → ℕ → Type 0
UsesIn ls u x = (a : Act) × In a (acts ls) × (a.uid ≡ u) × (unit_uses ls a x ≡ true)

uses_in_more : (ls ms : List Line) (u : Uid) (x : ℕ) → AreDistinct (acts (ls ++ ms)) → UsesIn ls u x → UsesIn (ls ++ ms) u x
uses_in_more ls ms u x distinct (a, i, is, on) = (
  a,
  subst (In a) (sym (acts_more [] ls ms)) (in_later ms (acts ls) a i),
  is,
  unit_more ls ms a x (ap (λ xs. path xs a.label) (acts_more [] ls ms) ∙ path_stays (acts ls) ms
      (subst AreDistinct (acts_more [] ls ms) distinct) a.label a (found (acts ls) (distinct_still ls ms distinct) a i)) on,
)

-- What the plan of an action's commit uses of an object: its unit uses it; at a place before the commit was called a top of the action's
-- root had a lock on its entry, in the incarnation that the plan names; and where it was called its copy was active at the server, in the
-- incarnation that is named.
pub record IsUsedSo (st : Start) (ls : List Line) (u : Uid) (w : Used) : Type 0 where
  pub first : List Line
  pub more : List Line
  pub are : ls ≡ first ++ more
  pub uncalled : is_on (let B = book first in B.called) u ≡ false
  pub top : Uid
  pub had : WasHad st first top w.x w.grant
  pub there : has_act (acts ls) top ≡ true
  pub its : has_act (acts ls) u ≡ true
  pub root : AreDistinct (acts ls) → first_uid (uids (path_by (acts ls) top)) ≡ first_uid (uids (path_by (acts ls) u))
  pub uses : AreDistinct (acts ls) → UsesIn ls u w.x
  pub server : IsEarly ls → w.called ≡ true →
      IsLined first w.x w.binding w.server × IsActiveIn st first w.server w.x w.binding w.inc

-- so it is as long as few bindings were made
abbrev pub PlanSo : Start → List Line → Uid → Used → Type 0
PlanSo st ls u w = HasFewBindings ls → IsUsedSo st ls u w

pub plan_more : (st : Start) (ls ms : List Line) (u : Uid) (w : Used) → PlanSo st ls u w → PlanSo st (ls ++ ms) u w
plan_more st ls ms u w so few =
    let h = so (few_before ls ms few) in record {
      first = h.first;
      more = h.more ++ ms;
      are = (λ i. h.are i ++ ms) ∙ append_assoc h.first h.more ms;
      uncalled = h.uncalled;
      top = h.top;
      had = h.had;
      there = any_later (λ (a : Act). uid_eq a.uid h.top) ls ms h.there;
      its = any_later (λ (a : Act). uid_eq a.uid u) ls ms h.its;
      root = λ distinct. ap (λ p. first_uid (uids p)) (path_still ls ms distinct h.top h.there) ∙ h.root (distinct_still ls ms distinct)
          ∙ ap (λ p. first_uid (uids p)) (sym (path_still ls ms distinct u h.its));
      uses = λ distinct. uses_in_more ls ms u w.x distinct (h.uses (distinct_still ls ms distinct));
      server = λ early. h.server (early_before ls ms early);
    }
