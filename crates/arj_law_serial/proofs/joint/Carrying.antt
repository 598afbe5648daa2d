-- Both machines of an object are carried beside each other, with more of the lock machine's states; and what is known as long as few
-- bindings were made.
use Rattle.arj_law_parts.proofs.Words.{◌≡◌, ℕ, true, is_some, ⊤, Header, Seen}
use Rattle.arj_law_serial.proofs.Terms
use Terms.{IsAtStarts}
use Terms.{HeaderFits, first_values, object_line, IsGood, all_keep as parts_good, Keeps, HasFewBindings, KnowsFew, KeepsGiven, given_more}
use Terms.{keeps_given, kept_both, IsKept, lines_keep, Office, Kinds, SeesBoth, KnowsScript, HaveEntries, KeepsPart, with_entries}
use Terms.{part_more, AreNotLate, WithTie, knows_idle, tied_part, Run, State, Fixed, OpsFit}
use Rattle.arj_law_disk_view.proofs.deciding_lines.Unlate.{unlate_each}
use Rattle.arj_law_disk_view.proofs.running.{Given.gives_votes, Kept.IsKeptInRun, Kept.all_keep}
use Rattle.arj_law_runs.proofs.calls.{Given.while_given, WholeRuns.WhileFew, WholeRuns.few_go}
use Rattle.arj_law_serial.proofs.joint
use joint.{Fits.fits_before, Joining.WithLocks, LastWriters.Idle}
use joint.JoinedParts.{Base, Carried, Early, Whole, base, locked}

-- ---- what is carried

-- with what is kept everywhere
abbrev pub IsKnownThere : ℕ → (Seen → Type 0) → Seen → Type 0
IsKnownThere x R M = (R M × IsKept M) × HaveEntries x M

-- the state of the disk machine that is carried through a run, tied to the journal, in which nobody is late
abbrev pub IsCarriedThere : ℕ → (Kinds → Office → Seen → Type 0) → Kinds → Seen → Type 0
IsCarriedThere x P tops M = (A : Office) × SeesBoth x tops A M × WithTie P Idle tops A M × AreNotLate A.world M

-- so it is in each world of a run
abbrev pub IsThere : ℕ → (Seen → Type 0) → (Kinds → Office → Seen → Type 0) → Seen → Type 0
IsThere x R P M = IsKeptInRun (IsKnownThere x R) (IsCarriedThere x P) M

-- what each handler keeps beside so much more is carried
module _ (hd : Header) (x : ℕ) (R L : Seen → Type 0) (kept : Keeps hd R) (P : Kinds → Office → Seen →
    Type 0) (parts : KeepsPart hd x (λ W M. R M × ((KnowsScript M × L M) × AreNotLate W M)) P) where
  abbrev Told : Seen → Type 0
  Told M = R M × IsKept M

  tied : KeepsPart hd x (λ W M. Told M × ((KnowsScript M × L M) × AreNotLate W M)) (WithTie P Idle)
  tied = tied_part hd x R (λ W M. (KnowsScript M × L M) × AreNotLate W M) P Idle kept parts (knows_idle R)

  known : Keeps hd (IsKnownThere x R)
  known = with_entries hd x Told (λ W M. Told M × ((KnowsScript M × L M) × AreNotLate W M)) (WithTie P Idle) tied
      (kept_both hd R IsKept kept (keeps_given hd R IsKept (lines_keep hd)))

  pub there_given : KeepsGiven hd (λ M. KnowsScript M × L M) (IsThere x R P)
  there_given = all_keep hd x (IsKnownThere x R) (λ M. KnowsScript M × L M) (IsCarriedThere x P) known (λ acts k d t M h.
      gives_votes (IsKnownThere x R) acts k d t M (h.0, h.1.0)) (unlate_each hd x Told (λ M. KnowsScript M × L M) P Idle tied)

-- ---- both machines

module _ (hd : Header) (x : ℕ) (form : HeaderFits hd) (there : is_some (object_line hd x) ≡ true) where
  counted : Keeps hd (Base hd x)
  counted = base hd x form there (λ M. ⊤) (λ f S M. ⊤) (λ M N l f S T run past. tt) (λ f S st formed. tt)

  -- operations are in form
  abbrev Fits : Seen → Type 0
  Fits M = OpsFit x M.lines

  -- Where operations are in form, both machines go on beside each other with more of the lock machine's states that stays as they go on,
  -- where this holds before each handler.
  pub beside_given : (L : Seen → Type 0) (P : Fixed → State → Seen → Type 0) → ((M N : Seen) → L M → (f : Fixed) (S T : State) → Run S T →
      P f S M → P f T N) → ((f : Fixed) (S : State) → IsAtStarts hd (P f S))
      → KeepsGiven hd (λ M. KnowsScript M × L M) (λ M. OpsFit x M.lines →
      IsThere x (Base hd x) (WithLocks (first_values hd) x (Whole x) P (Carried hd x)) M)
  beside_given L P stays starts =
      let Q : Kinds → Office → Seen → Type 0 = WithLocks (first_values hd) x (Whole x) P (Carried hd x) in
      while_given (OpsFit x) (fits_before x) (IsThere x (Base hd x) Q) hd (λ M. KnowsScript M × L M)
      (given_more hd (λ M. KnowsScript M × (Fits M × L M)) (λ M. (KnowsScript M × L M) × Fits M) (IsThere x (Base hd x) Q)
      (λ M k. (k.0.0, (k.1, k.0.1)))
      (there_given hd x (Base hd x) (λ M. Fits M × L M) counted Q
      (part_more hd x (λ W M. Early hd x W M × L M) (λ W M. Base hd x M × ((KnowsScript M × (Fits M × L M)) × AreNotLate W M)) Q
      (λ W M q. let r = q.1 in ((q.0, ((r.0.0, r.0.1.0), r.1)), r.0.1.1)) (locked hd x form there L P stays starts))))

-- ---- while few bindings were made

-- what is known as long as few bindings were made
abbrev pub Calm : Seen → Type 0
Calm M = WhileFew IsGood M

pub calm : (hd : Header) → Keeps hd Calm
calm hd = few_go hd IsGood (keeps_given hd KnowsFew IsGood (parts_good hd))

pub know : (M : Seen) → Calm M → HasFewBindings M.lines → KnowsFew M
know M c few = (few, (c.1 few).0)
