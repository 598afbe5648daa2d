-- What is said, and what a run leaves.
use Rattle.std.proofs.Common.{◌≡◌, ◌≢◌, ◌⊎◌, inl, inr, ℕ, zero, suc, ◌≤◌, List, take, Option, refl, sym, ◌∙◌, subst, arith}
use Rattle.std.specs.Prelude.{Result, Ok, Err, IfOk, IfErr}
use Rattle.std.proofs.Math.Logic.{⊎_elim}
use Rattle.arj_disk.specs.declared.disk.Disk as disk
use Rattle.arj_io.specs.Told.{Takes}
use Rattle.arj_journal.specs.declared.body.Line.{Line}
use Rattle.arj_loop.specs.Input.{Arrived, Came, source_view}
use Rattle.arj_loop.specs.Replayed.{Answer, Closes, Outside, StopsShort}
use Rattle.arj_loop.specs.Running.{Held, held_by}
use Rattle.arj_loop.specs.declared.ending.BadLine.{BadLine}
use Rattle.arj_loop.specs.declared.machine.Machine.{Ghosts}
use Rattle.arj_saving.specs.Comes.{ComesOf, LeadsTo, SaysBehind}
use Rattle.arj_saving.specs.Saved.{Saves, Says, SaysEnd, SaysLast, SaysSaved, left_by}
use Rattle.arj_saving.specs.Stops.{EndsAtLimit, MeetsLimit, Moment, moment, no_labels}
use Rattle.arj_saving.specs.declared.imaging.Silence.{Silence}
use Rattle.arj_saving.specs.declared.imaging.Silence.TheVariants as silence
use Rattle.arj_saving.specs.declared.imaging.Way.TheVariants as way
use Rattle.arj_saving.specs.declared.saving.Said.{Said}
use Rattle.arj_saving.proofs.Ends.{HasLast, at_format, cut_off, cut_short, has_ended, says_end}

-- a status of what is said
abbrev IsSaid : ℕ → Type 0
IsSaid n = (n ≡ 0) ⊎ ((n ≡ 2) ⊎ (n ≡ 6))

not_said : (n k : ℕ) → IsSaid n → k ≢ 0 → k ≢ 2 → k ≢ 6 → n ≢ k
not_said n k (inl a) none two six is = none (sym is ∙ a)
not_said n k (inr (inl a)) none two six is = two (sym is ∙ a)
not_said n k (inr (inr a)) none two six is = six (sym is ∙ a)

module _ {D M : Type 0} (m : Ghosts M D) (d : disk.Ghosts D) where
  -- a limit that was met is the journal's last line
  limit_last : (header : _) (now : Moment D M) (journal : List Line) → EndsAtLimit m header now journal → HasLast journal
  limit_last header now journal (inl (over, ends, is)) = (ends.0, ends.1, is ∙ ends.2)
  limit_last header now journal (inr (going, full, is)) = (now.journal, no_labels (m.steps now.machine), is)

  pub met_last : (nodes : List ℕ) (old now : Moment D M) (first : List D) (header : _) (events : _) →
      m.ran first header events old.rack old.journal old.machine → MeetsLimit m nodes old now → HasLast now.journal
  met_last nodes old now first header events ran l =
      limit_last header (moment now.rack now.machine l.lines) now.journal (l.ends first header events ran)

  -- ---- statuses

  said_status : (given : Arrived) (first : List D) (now : Held D M) (why : Option BadLine) (said : List ℕ × ℕ) → Says m d given first now why said →
      IsSaid said.1
  said_status given first now why said (inl s) = let i = s.says in ⊎_elim (λ zero. inl zero) (λ six. inr (inr six)) i.only
  said_status given first now why said (inr (inl e)) = ⊎_elim (λ two. inr (inl two)) (λ six. inr (inr six)) e.only
  said_status given first now why said (inr (inr l)) = inr (inr l.0)

  saved_at : (given : Arrived) (first : List D) (now : Held D M) (why : Option BadLine) (text : List ℕ) → Says m d given first now why (text, 0) →
      SaysSaved m d given first now (text, 0)
  saved_at given first now why text (inl s) = s
  saved_at given first now why text (inr (inl e)) = absurd (⊎_elim (λ two. omega (arith, two)) (λ six. omega (arith, six)) e.only)
  saved_at given first now why text (inr (inr l)) = let six = l.0 in absurd (omega (arith, six))

  bad_at : (given : Arrived) (first : List D) (now : Held D M) (why : Option BadLine) (text : List ℕ) → Says m d given first now why (text, 2) →
      SaysEnd m given first now why (text, 2)
  bad_at given first now why text (inl s) = let i = s.says in absurd (⊎_elim (λ zero. omega (arith, zero)) (λ six. omega (arith, six)) i.only)
  bad_at given first now why text (inr (inl e)) = e
  bad_at given first now why text (inr (inr l)) = let six = l.0 in absurd (omega (arith, six))

  -- ---- what comes of a script

  -- the whole of it was run
  pub comes_behind : (given : Arrived) (first : List D) (now : Held D M) (why : Option BadLine) (r : Result Said Silence) →
      SaysBehind m d given first now r → ComesOf m d given first now why r
  comes_behind given first now why (Ok said) (inl saved) = inl saved
  comes_behind given first now why (Ok said) (inr limit) = inr (inr limit)
  comes_behind given first now why (Err silence.Read) never = absurd never
  comes_behind given first now why (Err silence.Disk) stopped = inr stopped
  comes_behind given first now why (Err silence.Memory) wants = inr (inr wants)

  -- it ended before
  pub comes_end : (before after : Outside D) (a : Answer M) (closes : Closes m before after a) → (a.status ≡ 2) ⊎ (a.status ≡ 6) →
      (r : Result Said Silence) → IfOk r (λ said. (said.status ≡ a.status) × SaysLast a.journal said.text) → IfErr r (λ why. why ≡ silence.Memory) →
      ComesOf m d closes.given before.rack (held_by after.rack a.machine a.journal) a.why r
  comes_end before after a closes which (Ok said) says memory =
      inr (inl (says_end m before after a closes which said.text said.status says.0 says.1))
  comes_end before after a closes which (Err silence.Memory) says memory = has_ended m d before after a closes
  comes_end before after a closes which (Err silence.Read) says memory = absurd (cc memory)
  comes_end before after a closes which (Err silence.Disk) says memory = absurd (cc memory)

  -- nothing is said
  pub comes_silent : (before after : Outside D) (a : Answer M) → (a.status ≤ 7) → a.status ≢ 1 → a.status ≢ 4 →
      (a.status ≢ 4 → a.status ≢ 5 → Closes m before after a) → ((a.status ≡ 4) ⊎ (a.status ≡ 5) → StopsShort m before after a.status) → (s : Silence) →
      LeadsTo a.status (way.Stop s) →
      (given : Arrived) × Came (source_view before.left before.faults) (source_view after.left after.faults) given
      × ComesOf m d given before.rack (held_by after.rack a.machine a.journal) a.why (Err s)
  comes_silent before after a few one four closes short silence.Read is =
      let c = closes four (λ e. omega (arith, e, is)) in (c.given, c.reads, cut_off m before after a c is)
  comes_silent before after a few one four closes short silence.Disk is =
      let c = closes four (λ e. omega (arith, e, is)) in (c.given, c.reads, inl (at_format m before after a c is))
  comes_silent before after a few one four closes short silence.Memory is =
      let is_five = five a.status few is.0 one is.1 is.2 four is.3 is.4 in
      let s = subst (λ n. StopsShort m before after n) is_five (short (inr is_five)) in
      (s.given, s.reads, cut_short m d before after s)
    where
      five : (n : ℕ) → n ≤ 7 → n ≢ 0 → n ≢ 1 → n ≢ 2 → n ≢ 3 → n ≢ 4 → n ≢ 6 → n ≢ 7 → n ≡ 5
      five zero few a b c e f g h = absurd (a refl)
      five (suc zero) few a b c e f g h = absurd (b refl)
      five (suc (suc zero)) few a b c e f g h = absurd (c refl)
      five (suc (suc (suc zero))) few a b c e f g h = absurd (e refl)
      five (suc (suc (suc (suc zero)))) few a b c e f g h = absurd (f refl)
      five (suc (suc (suc (suc (suc zero))))) few a b c e f g h = refl
      five (suc (suc (suc (suc (suc (suc zero)))))) few a b c e f g h = absurd (g refl)
      five (suc (suc (suc (suc (suc (suc (suc zero))))))) few a b c e f g h = absurd (h refl)
      five (suc (suc (suc (suc (suc (suc (suc (suc n)))))))) few a b c e f g h = absurd (omega (arith, few))

  -- what is said has one of three statuses
  pub status_fits : (given : Arrived) (first : List D) (now : Held D M) (why : Option BadLine) (said : Said) → ComesOf m d given first now why (Ok said) →
      (said.status ≤ 7) × (said.status ≢ 1) × (said.status ≢ 3)
  status_fits given first now why said says =
      let which = said_status given first now why (said.text, said.status) says in (
        few which,
        not_said said.status 1 which (λ e. omega (arith, e)) (λ e. omega (arith, e)) (λ e. omega (arith, e)),
        not_said said.status 3 which (λ e. omega (arith, e)) (λ e. omega (arith, e)) (λ e. omega (arith, e)),
      )
    where
      few : IsSaid said.status → said.status ≤ 7
      few (inl a) = omega (arith, a)
      few (inr (inl a)) = omega (arith, a)
      few (inr (inr a)) = omega (arith, a)

  -- ---- what a run leaves

  module _ (given : Arrived) (before after : Outside D) (a : Answer M)
      (reads : Came (source_view before.left before.faults) (source_view after.left after.faults) given) where
    -- what is said was written
    pub saves_wrote : (said : Said) → ComesOf m d given before.rack (left_by after a) a.why (Ok said) → a.status ≡ said.status →
        Takes before.taken said.text after.taken → Saves m d before after a
    saves_wrote said says is takes =
        let which = said_status given before.rack (left_by after a) a.why (said.text, said.status) says in
        let says_by : (n : ℕ) → a.status ≡ n → Says m d given before.rack (left_by after a) a.why (said.text, n) =
        λ n e. subst (λ k. Says m d given before.rack (left_by after a) a.why (said.text, k)) (sym is ∙ e) says in
        let not : (k : ℕ) → k ≢ 0 → k ≢ 2 → k ≢ 6 → a.status ≢ k = λ k zero two six e. not_said said.status k which zero two six (sym is ∙ e) in
        let three : a.status ≢ 3 = not 3 (λ e. omega (arith, e)) (λ e. omega (arith, e)) (λ e. omega (arith, e)) in
        let four : a.status ≢ 4 = not 4 (λ e. omega (arith, e)) (λ e. omega (arith, e)) (λ e. omega (arith, e)) in
        let five : a.status ≢ 5 = not 5 (λ e. omega (arith, e)) (λ e. omega (arith, e)) (λ e. omega (arith, e)) in
        let seven : a.status ≢ 7 = not 7 (λ e. omega (arith, e)) (λ e. omega (arith, e)) (λ e. omega (arith, e)) in
        let one : a.status ≢ 1 = not 1 (λ e. omega (arith, e)) (λ e. omega (arith, e)) (λ e. omega (arith, e)) in
        let eight : a.status ≢ 8 = not 8 (λ e. omega (arith, e)) (λ e. omega (arith, e)) (λ e. omega (arith, e)) in
        record {
          given = given;
          reads = reads;
          image = λ e. (said.text, saved_at given before.rack (left_by after a) a.why said.text (says_by 0 e), takes);
          bad = λ e. (said.text, bad_at given before.rack (left_by after a) a.why said.text (says_by 2 e), takes);
          limit = λ e. (said.text, says_by 6 e, takes);
          front = λ e. absurd (four e);
          fault = λ e. absurd (three e);
          stopped = λ e. absurd (seven e);
          memory = λ e. absurd (five e);
          unsaid = λ e. absurd (⊎_elim three (⊎_elim five seven) e);
          never = (one, eight);
        }

    -- a write failed
    pub saves_front : (said : Said) → ComesOf m d given before.rack (left_by after a) a.why (Ok said) → a.status ≡ 4 → (count : ℕ) →
        Takes before.taken (take count said.text) after.taken → Saves m d before after a
    saves_front said says is count takes =
        let not : (k : ℕ) → k ≢ 4 → a.status ≢ k = λ k other e. other (sym e ∙ is) in
        record {
          given = given;
          reads = reads;
          image = λ e. absurd (not 0 (λ e. omega (arith, e)) e);
          bad = λ e. absurd (not 2 (λ e. omega (arith, e)) e);
          limit = λ e. absurd (not 6 (λ e. omega (arith, e)) e);
          front = λ e. ((said.text, said.status), count, says, takes);
          fault = λ e. absurd (not 3 (λ e. omega (arith, e)) e);
          stopped = λ e. absurd (not 7 (λ e. omega (arith, e)) e);
          memory = λ e. absurd (not 5 (λ e. omega (arith, e)) e);
          unsaid = λ e. absurd (⊎_elim (not 3 (λ e. omega (arith, e))) (⊎_elim (not 5 (λ e. omega (arith, e))) (not 7 (λ e. omega (arith, e)))) e);
          never = (not 1 (λ e. omega (arith, e)), not 8 (λ e. omega (arith, e)));
        }

    -- a read failed
    pub saves_read : ComesOf m d given before.rack (left_by after a) a.why (Err silence.Read) → a.status ≡ 3 → after.taken ≡ before.taken →
        Saves m d before after a
    saves_read comes is same =
        let not : (k : ℕ) → k ≢ 3 → a.status ≢ k = λ k other e. other (sym e ∙ is) in
        record {
          given = given;
          reads = reads;
          image = λ e. absurd (not 0 (λ e. omega (arith, e)) e);
          bad = λ e. absurd (not 2 (λ e. omega (arith, e)) e);
          limit = λ e. absurd (not 6 (λ e. omega (arith, e)) e);
          front = λ e. absurd (not 4 (λ e. omega (arith, e)) e);
          fault = λ e. comes;
          stopped = λ e. absurd (not 7 (λ e. omega (arith, e)) e);
          memory = λ e. absurd (not 5 (λ e. omega (arith, e)) e);
          unsaid = λ e. same;
          never = (not 1 (λ e. omega (arith, e)), not 8 (λ e. omega (arith, e)));
        }

    -- a disk was stopped
    pub saves_disk : ComesOf m d given before.rack (left_by after a) a.why (Err silence.Disk) → a.status ≡ 7 → after.taken ≡ before.taken →
        Saves m d before after a
    saves_disk comes is same =
        let not : (k : ℕ) → k ≢ 7 → a.status ≢ k = λ k other e. other (sym e ∙ is) in
        record {
          given = given;
          reads = reads;
          image = λ e. absurd (not 0 (λ e. omega (arith, e)) e);
          bad = λ e. absurd (not 2 (λ e. omega (arith, e)) e);
          limit = λ e. absurd (not 6 (λ e. omega (arith, e)) e);
          front = λ e. absurd (not 4 (λ e. omega (arith, e)) e);
          fault = λ e. absurd (not 3 (λ e. omega (arith, e)) e);
          stopped = λ e. comes;
          memory = λ e. absurd (not 5 (λ e. omega (arith, e)) e);
          unsaid = λ e. same;
          never = (not 1 (λ e. omega (arith, e)), not 8 (λ e. omega (arith, e)));
        }

    -- memory was wanting
    pub saves_memory : ComesOf m d given before.rack (left_by after a) a.why (Err silence.Memory) → a.status ≡ 5 → after.taken ≡ before.taken →
        Saves m d before after a
    saves_memory comes is same =
        let not : (k : ℕ) → k ≢ 5 → a.status ≢ k = λ k other e. other (sym e ∙ is) in
        record {
          given = given;
          reads = reads;
          image = λ e. absurd (not 0 (λ e. omega (arith, e)) e);
          bad = λ e. absurd (not 2 (λ e. omega (arith, e)) e);
          limit = λ e. absurd (not 6 (λ e. omega (arith, e)) e);
          front = λ e. absurd (not 4 (λ e. omega (arith, e)) e);
          fault = λ e. absurd (not 3 (λ e. omega (arith, e)) e);
          stopped = λ e. absurd (not 7 (λ e. omega (arith, e)) e);
          memory = λ e. comes;
          unsaid = λ e. same;
          never = (not 1 (λ e. omega (arith, e)), not 8 (λ e. omega (arith, e)));
        }
