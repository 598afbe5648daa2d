-- Where the machine has gone since a walk began.
use Rattle.arj_law_parts.proofs.Words
use Words.{◌≡◌, ℕ, ◌==◌, ◌||◌, not, List, [], ◌∷◌, ◌++◌, Bool, true, false, Option, Some, None, refl, sym, ◌∙◌, ap, subst}
use Rattle.arj_law_disk_view.proofs.Terms
use Terms.{World, Effect, Follows, run, after, AreOnlyOf, Note, Begins, Decides, Confirms, Acks, is_only_of, only_begins, tells_only_of}
use Terms.{naming, never, test_is, Walk, Along, IsAlong, may_note}
use Terms.machine
use Terms.mail
use Rattle.arj_law_disk.specs.machine.Guards.{ArePlain}

-- ---- the machine goes in steps

pub follows_both : (W : World) (es fs : List Effect) → Follows W es → Follows (run W es) fs → Follows W (es ++ fs)
follows_both W [] fs a b = b
follows_both W (e ∷ es) fs a b = (a.0, follows_both (after W e) es fs a.1 b)

pub run_both : (W : World) (es fs : List Effect) → run W (es ++ fs) ≡ run (run W es) fs
run_both W [] fs = refl
run_both W (e ∷ es) fs = run_both (after W e) es fs

pub only_both : (f : Note → Bool) (es fs : List Effect) → AreOnlyOf f es → AreOnlyOf f fs → AreOnlyOf f (es ++ fs)
only_both f [] fs a b = b
only_both f (e ∷ es) fs a b = (a.0, only_both f es fs a.1 b)

-- ---- more may be noted

module _ (f g : Note → Bool) (wider : (n : Note) → f n ≡ true → g n ≡ true) where
  tells_more : (m : mail.Message) → tells_only_of f m ≡ true → tells_only_of g m ≡ true
  tells_more (mail.Prepare t s) h = h
  tells_more (mail.Prepared t s) h = h
  tells_more (mail.Confirm t) h = h
  tells_more (mail.Confirmed t) h = h
  tells_more (mail.ToldCommit t m) h = h
  tells_more (mail.ToldBare t m) h = h
  tells_more (mail.ToldAbort t m) h = h
  tells_more (mail.Acked t m) h = by (not (m == naming)) h
    where
      by : (b : Bool) → (b || f (Acks t)) ≡ true → (b || g (Acks t)) ≡ true
      by true is = is
      by false is = wider (Acks t) is
  tells_more (mail.ToldSerial r m) h = h

  only_more : (e : Effect) → is_only_of f e ≡ true → is_only_of g e ≡ true
  only_more (machine.Begin t p) h = wider (Begins t) h
  only_more (machine.Take t s) h = h
  only_more (machine.Seal t) h = h
  only_more (machine.Intend t nodes) h = h
  only_more (machine.Decide t) h = wider (Decides t) h
  only_more (machine.Remove t nodes) h = h
  only_more (machine.EndBare t) h = wider (Decides t) h
  only_more (machine.Halt t) h = h
  only_more (machine.Keep t s) h = h
  only_more (machine.Move s k) h = h
  only_more (machine.Finish s k) h = h
  only_more (machine.Drop s k) h = h
  only_more (machine.Agree t) h = wider (Confirms t) h
  only_more (machine.Pass t) h = wider (Confirms t) h
  only_more (machine.Enter t) h = wider (Confirms t) h
  only_more (machine.MoveEntry k) h = h
  only_more (machine.FinishEntry k) h = h
  only_more (machine.DropEntry k) h = h
  only_more (machine.Forget r k) h = h
  only_more (machine.Send m) h = tells_more m h

  pub all_more : (es : List Effect) → AreOnlyOf f es → AreOnlyOf g es
  all_more [] h = tt
  all_more (e ∷ es) h = (only_more e h.0, all_more es h.1)

-- what may be noted: the beginning of one commit, and nothing
pub begins_only : (f : Note → Bool) (t : ℕ) (es : List Effect) → f (Begins t) ≡ true → AreOnlyOf (only_begins t) es → AreOnlyOf f es
begins_only f t es noted own = all_more (only_begins t) f by es own
  where
    by : (n : Note) → only_begins t n ≡ true → f n ≡ true
    by (Begins z) h = ap (λ w. f (Begins w)) (test_is z t h) ∙ noted
    by (Decides z) h = absurd (never h refl)
    by (Confirms z) h = absurd (never h refl)
    by (Acks z) h = absurd (never h refl)

pub plain_only : (f : Note → Bool) (es : List Effect) → ArePlain es → AreOnlyOf f es
plain_only f es plain = all_more (λ n. false) f (λ n h. absurd (never h refl)) es plain

-- ---- the walk goes on

pub along_goes : (o : Option Walk) (W : World) (es : List Effect) → Follows W es → AreOnlyOf (may_note o) es → IsAlong o W →
    IsAlong o (run W es)
along_goes None W es follows only a = tt
along_goes (Some w) W es follows only a = record {
  effects = a.effects ++ es;
  allowed = follows_both w.from a.effects es a.allowed (subst (λ V. Follows V es) (sym a.here) follows);
  here = run_both w.from a.effects es ∙ ap (λ V. run V es) a.here;
  only = only_both w.noted a.effects es a.only only;
}

-- a walk that begins here, in which nothing is noted, goes on it
pub along_then : (o : Option Walk) (W U : World) → IsAlong o W → Along (record { from = W; noted = λ n. false }) U → IsAlong o U
along_then o W U h a = subst (λ V. IsAlong o V) a.here (along_goes o W a.effects a.allowed (plain_only (may_note o) a.effects a.only) h)
