-- Each line of a run that a store's abort is done stands behind its cause, and naming aborts nothing of a decided top.
use Rattle.arj_law_parts.proofs.Words
use Words.{◌≡◌, ◌∙◌, ◌&&◌, ◌||◌, ◌++◌, ℕ, Bool, true, false, inl, inr, not, List, [], ◌∷◌, refl, sym, ap, subst, list_any, and_parts}
use Words.{uid_is, uid_eq, End, Uid, Body, Line, Role, In, in_to, Header, World, world_by, ShowsOneOutcome}
use Rattle.arj_law_promise.proofs.Terms
use Terms.{Act, acts, Holds, keeps_asked, moves_asked, book, is_decided, new_book, AreRight, is_sound, IsKept, lines_keep, may_abort}
use Terms.{right_front}
use Terms.ending
use Terms.body
use Terms.role
use Rattle.arj_law_promise.proofs.settling
use settling.{Causes.cause_may, ConfirmKnown.IsNaming, ConfirmRuns.naming_run, Rights.right_run, Stills.IsRight}
use Rattle.arj_law_promise.specs.settling.Outcomes.{AbortsNoneDecided, NamingAbortsNoneDecided, RunsShowOneOutcome, StoresAbortByCauses}
use Rattle.arj_law_promise.specs.settling.Outcomes.{StoresHaveCauses}
use Rattle.arj_law_serial.proofs.joint.Behind.{each_from, right_commits}
use Rattle.arj_model.specs.{Actions.committed, Actions.is_committed, Actions.recovered, Outcome.has_cause_to_abort, Outcome.is_said}
use Rattle.arj_promise.specs.Runs.{Run}

-- an action of these that the test finds
found_in : (p : Act → Bool) (xs : List Act) → list_any p xs ≡ true → (a : Act) × In a xs × (p a ≡ true)
found_in p [] is = absurd (cc is)
found_in p (x ∷ xs) is = by (p x) refl is (found_in p xs)
  where
    by : (b : Bool) → p x ≡ b → (b || list_any p xs) ≡ true → (list_any p xs ≡ true → (a : Act) × In a xs × (p a ≡ true)) →
        (a : Act) × In a (x ∷ xs) × (p a ≡ true)
    by true here e later = (x, inl refl, here)
    by false there e later = let r = later e in (r.0, inr r.1, r.2)

-- whom the lines say is decided by the book
said_decided : (lines : List Line) → AreRight new_book lines → (u : Uid) → is_said lines u ≡ true → is_decided (book lines) u ≡ true
said_decided lines right u is =
    let r = found_in (λ (a : Act). uid_eq a.uid u && is_committed (committed lines) (recovered lines) a) (acts lines) is in
    let p = and_parts (uid_eq (let a = r.0 in a.uid) u) (is_committed (committed lines) (recovered lines) r.0) r.2 in
    ap (is_decided (book lines)) (sym (uid_is (let a = r.0 in a.uid) u p.0))
    ∙ sym (let s = is_sound lines right in let b = s.reads in b.decided r.0 (in_to r.0 (acts lines) r.1)) ∙ p.1

-- as the rest says, where it is said
where_said : (a b : Bool) → (a ≡ true → b ≡ true) → (not a || b) ≡ true
where_said false b its = refl
where_said true b its = its refl

caused : (before : List Line) (b : Body) → ((r : Role) (n : ℕ) (u : Uid) → b ≡ body.Done n u r ending.Abort → is_said before u ≡ true →
    may_abort before r n u ≡ true) → has_cause_to_abort before b ≡ true
caused before (body.Done n u r e) each = by e each
  where
    by : (f : End) → ((q : Role) (m : ℕ) (v : Uid) → body.Done n u r f ≡ body.Done m v q ending.Abort → is_said before v ≡ true →
        may_abort before q m v ≡ true) → has_cause_to_abort before (body.Done n u r f) ≡ true
    by ending.Abort its = where_said (is_said before u) (may_abort before r n u) (its r n u refl)
    by ending.Commit its = refl
caused before b each = refl

-- a world in which so much is kept
module _ (hd : Header) (w : World) (rights : Holds hd IsRight w) (namings : Holds hd IsNaming w) (kept : Holds hd IsKept w) where
  right : AreRight new_book w.lines
  right = (let k = kept.holds in let written = k.1 in written.right)

  right_before : (before : List Line) (line : Line) (behind : List Line) → w.lines ≡ before ++ line ∷ behind → AreRight new_book before
  right_before before line behind is = right_front new_book before (line ∷ behind) (subst (AreRight new_book) is right)

  pub stores_have_causes : StoresHaveCauses w.lines
  stores_have_causes before line behind n u is says said =
      let core = (let z = rights.holds in z.1) in
      cause_may before n u (core.lines before line behind n u is says (said_decided before (right_before before line behind is) u said))

  pub aborts_none_decided : AbortsNoneDecided w.lines
  aborts_none_decided before line behind n u is says = by (is_said before u) refl
    where
      by : (b : Bool) → is_said before u ≡ b → b ≡ false
      by false none = refl
      by true said =
          let core = (let z = namings.holds in z.1) in
          absurd (core.lines before line behind n u is says (said_decided before (right_before before line behind is) u said))

  pub shows : ShowsOneOutcome w.lines
  shows = record {
    commits = right_commits w.lines (is_sound w.lines right);
    aborts = each_from has_cause_to_abort w.lines
        (λ before line behind is. caused before line.body (λ r n u says said. by before line behind is r n u says said)) [] w.lines refl;
  }
    where
      by : (before : List Line) (line : Line) (behind : List Line) → w.lines ≡ before ++ line ∷ behind → (r : Role) (n : ℕ) (u : Uid) →
          line.body ≡ body.Done n u r ending.Abort → is_said before u ≡ true → may_abort before r n u ≡ true
      by before line behind is role.Store n u says said = stores_have_causes before line behind n u is says said
      by before line behind is role.Names n u says said =
          let no_way : true ≡ false = sym said ∙ aborts_none_decided before line behind n u is says in cc no_way

-- ---- runs

lines_run : (hd : Header) (r : Run hd) → Holds hd IsKept (world_by hd r)
lines_run hd r = moves_asked hd IsKept (keeps_asked hd IsKept (lines_keep hd)) r

pub stores_abort : StoresAbortByCauses
stores_abort hd r = stores_have_causes hd (world_by hd r) (right_run hd r) (naming_run hd r) (lines_run hd r)

pub naming_aborts_none : NamingAbortsNoneDecided
naming_aborts_none hd r = aborts_none_decided hd (world_by hd r) (right_run hd r) (naming_run hd r) (lines_run hd r)

pub runs_show : RunsShowOneOutcome
runs_show hd r = shows hd (world_by hd r) (right_run hd r) (naming_run hd r) (lines_run hd r)
