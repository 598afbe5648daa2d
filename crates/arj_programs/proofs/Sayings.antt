-- What is said, and what a run leaves.
use Rattle.std.proofs.Common.{◌≡◌, ◌≢◌, ◌⊎◌, inl, inr, ◌∙◌, ℕ, List, [], ◌∷◌, ◌++◌, take, refl, sym, subst, arith, Option, None}
use Rattle.std.proofs.Common.{Ok, Err}
use Rattle.std.proofs.Math.Logic.{⊎_elim}
use Rattle.arj_io.specs.Told.{Takes}
use Rattle.arj_journal.specs.declared.body.Line.{Line}
use Rattle.arj_journal.specs.declared.body.Which.{Which}
use Rattle.arj_journal.specs.declared.body.Which.TheVariants as which
use Rattle.arj_journal.specs.declared.header.Header.{Header}
use Rattle.arj_lines.specs.Reading.{Gave, Input}
use Rattle.arj_loop.specs.Input.{source_view}
use Rattle.arj_loop.specs.Replayed.{Answer, Outside}
use Rattle.arj_loop.specs.declared.ending.BadLine.{BadLine}
use Rattle.arj_loop.specs.declared.machine.Machine.{Ghosts}
use Rattle.arj_prog.specs.declared.plan.Plan.{Plan}
use Rattle.arj_programs.specs.Input.{IsWhole, Reads}
use Rattle.arj_programs.specs.Outcome.{RunsPrograms, Says, left_by}
use Rattle.arj_programs.specs.Runs.{ComesSoFar, EndsBy, Left, MetLimit, RanPlan, WasLeft, left}
use Rattle.arj_programs.specs.Said.{Comes, SaysPlan, SaysStop}
use Rattle.arj_programs.specs.declared.programs.Said.{Said}
use Rattle.arj_programs.specs.declared.programs.Silence.TheVariants as silence
use Rattle.arj_programs.specs.declared.reading.Stop.{Stop}
use Rattle.arj_programs.specs.declared.reading.Stop.TheVariants as stop
use Rattle.arj_progrun.specs.declared.report.ReportLine.{ReportLine}

module _ {D M : Type 0} (m : Ghosts M D) where
  -- ---- what is said

  pub says_stop : (given : Input) (first : List D) (s : Stop) (journal : List Line) (why : Option BadLine) (said : Said) →
      Reads given (Err s) → SaysStop s journal why said → Comes m given first (left first journal None) why (Ok said)
  says_stop given first (stop.Bad number bad) journal why said reads (status, why_is, journal_is, text_is) = record {
    ran = λ is. absurd (omega (arith, is, status));
    bad = λ _. (number, bad, reads, why_is, record { journal = journal_is; rack = refl; machine = refl; text_is = text_is });
    limit = λ is. absurd (omega (arith, is, status));
    only = inr (inl status);
  }
  says_stop given first stop.Long journal why said reads (status, journal_is, text_is) = record {
    ran = λ is. absurd (omega (arith, is, status));
    bad = λ is. absurd (omega (arith, is, status));
    limit = λ _. inl (reads, record { journal = journal_is; rack = refl; machine = refl; text_is = text_is });
    only = inr (inr status);
  }
  says_stop given first stop.Fault journal why said reads says = absurd says
  says_stop given first stop.Memory journal why said reads says = absurd says

  pub says_plan : (given : Input) (first : List D) (plan : Plan) (now : Left D M) (why : Option BadLine) (said : Said) →
      IsWhole given plan → SaysPlan m plan first now said → Comes m given first now why (Ok said)
  says_plan given first plan now why said whole (inl (status, (told, ran, text_is))) = record {
    ran = λ _. (plan, whole, (told, ran, text_is));
    bad = λ is. absurd (omega (arith, is, status));
    limit = λ is. absurd (omega (arith, is, status));
    only = inl status;
  }
  says_plan given first plan now why said whole (inr (status, met, last)) = record {
    ran = λ is. absurd (omega (arith, is, status));
    bad = λ is. absurd (omega (arith, is, status));
    limit = λ _. inr (plan, whole, met, last);
    only = inr (inr status);
  }

  -- ---- where memory was wanting behind a run

  pub comes_ran : (plan : Plan) (first : List D) (now : Left D M) (told : List ReportLine) → RanPlan m plan first now told →
      ComesSoFar m plan first now.rack
  comes_ran plan first now told ran =
      let left_so : WasLeft m first plan.header now.rack = record {
        machine = ran.machine;
        mid = now.rack;
        run = ran.run;
        since =
            inl refl;
      } in
      inr (inr left_so)

  pub comes_met : (plan : Plan) (first : List D) (now : Left D M) → MetLimit m plan.header first now → ComesSoFar m plan first now.rack
  comes_met plan first now met =
      let left_so : WasLeft m first plan.header now.rack = record {
        machine = met.machine;
        mid = now.rack;
        run = met.run;
        since =
            inl refl;
      } in
      inr (inr left_so)

  -- a journal that tells of a limit has a last line
  last_by : (w : Which) (header : Header) (machine : M) (rack : List D) (lines journal : List Line) →
      EndsBy m w header machine rack lines journal → (front : List Line) × (last : Line) × (journal ≡ front ++ last ∷ [])
  last_by which.Frames header machine rack lines journal (over, ends, is) = (ends.0, ends.1, is ∙ ends.2)
  last_by which.Labels header machine rack lines journal (going, full, is) = (lines, _, is)
  last_by which.Lines header machine rack lines journal never = absurd never

  pub has_last : (header : Header) (first : List D) (now : Left D M) → MetLimit m header first now →
      (front : List Line) × (last : Line) × (now.journal ≡ front ++ last ∷ [])
  has_last header first now met =
      let run = met.run in last_by met.which header met.machine now.rack run.lines now.journal met.ends

  -- ---- what a run leaves

  not_said : (n k : ℕ) → (n ≡ 0) ⊎ ((n ≡ 2) ⊎ (n ≡ 6)) → k ≢ 0 → k ≢ 2 → k ≢ 6 → n ≢ k
  not_said n k (inl a) zero two six is = zero (sym is ∙ a)
  not_said n k (inr (inl a)) zero two six is = two (sym is ∙ a)
  not_said n k (inr (inr a)) zero two six is = six (sym is ∙ a)

  -- it was written
  pub wrote : (given : Input) (before after : Outside D) (answer : Answer M) (said : Said) →
      Gave (source_view before.left before.faults) (source_view after.left after.faults) given →
      Says m given before.rack (left_by after answer) answer.why said.text said.status → answer.status ≡ said.status →
      Takes before.taken said.text after.taken → RunsPrograms m before after answer
  wrote given before after answer said reads says is takes =
      let not : (k : ℕ) → k ≢ 0 → k ≢ 2 → k ≢ 6 →
      answer.status ≢ k = λ k zero two six e. not_said said.status k says.only zero two six (sym is ∙ e) in
      let three : answer.status ≢ 3 = not 3 (λ e. omega (arith, e)) (λ e. omega (arith, e)) (λ e. omega (arith, e)) in
      let four : answer.status ≢ 4 = not 4 (λ e. omega (arith, e)) (λ e. omega (arith, e)) (λ e. omega (arith, e)) in
      let five : answer.status ≢ 5 = not 5 (λ e. omega (arith, e)) (λ e. omega (arith, e)) (λ e. omega (arith, e)) in
      let seven : answer.status ≢ 7 = not 7 (λ e. omega (arith, e)) (λ e. omega (arith, e)) (λ e. omega (arith, e)) in
      let one : answer.status ≢ 1 = not 1 (λ e. omega (arith, e)) (λ e. omega (arith, e)) (λ e. omega (arith, e)) in
      let eight : answer.status ≢ 8 = not 8 (λ e. omega (arith, e)) (λ e. omega (arith, e)) (λ e. omega (arith, e)) in
      record {
        given = given;
        reads = reads;
        says = λ _ _ _ _. (
          said.text,
          subst (λ n. Says m given before.rack (left_by after answer) answer.why said.text n)
              (sym is) says,
          takes,
        );
        front = λ e. absurd (four e);
        fault = λ e. absurd (three e);
        memory = λ e. absurd (five e);
        stopped = λ e. absurd (seven e);
        unsaid = λ which. absurd (⊎_elim three (λ rest. ⊎_elim five seven rest) which);
        never = (one, eight);
      }

  -- a write failed
  pub wrote_front : (given : Input) (before after : Outside D) (answer : Answer M) (said : Said) (count : ℕ) →
      Gave (source_view before.left before.faults) (source_view after.left after.faults) given →
      Says m given before.rack (left_by after answer) answer.why said.text said.status → answer.status ≡ 4 →
      Takes before.taken (take count said.text) after.taken → RunsPrograms m before after answer
  wrote_front given before after answer said count reads says is takes = record {
    given = given;
    reads = reads;
    says = λ _ four _ _. absurd (four is);
    front = λ _. (said.text, count, said.status, says, takes);
    fault = λ e. absurd (omega (arith, is, e));
    memory = λ e. absurd (omega (arith, is, e));
    stopped = λ e. absurd (omega (arith, is, e));
    unsaid = λ which. absurd (⊎_elim (λ e. omega (arith, is, e)) (λ rest. ⊎_elim (λ e. omega (arith, is, e)) (λ e. omega
        (arith, is, e)) rest) which);
    never = ((λ e. omega (arith, is, e)), λ e. omega (arith, is, e));
  }

  -- nothing was said: a read failed
  pub unread : (given : Input) (before after : Outside D) (answer : Answer M) →
      Gave (source_view before.left before.faults) (source_view after.left after.faults) given →
      Comes m given before.rack (left_by after answer) answer.why (Err silence.Read) → answer.status ≡ 3 → after.taken ≡ before.taken →
      RunsPrograms m before after answer
  unread given before after answer reads comes is same = record {
    given = given;
    reads = reads;
    says = λ three _ _ _. absurd (three is);
    front = λ e. absurd (omega (arith, is, e));
    fault = λ _. comes;
    memory = λ e. absurd (omega (arith, is, e));
    stopped = λ e. absurd (omega (arith, is, e));
    unsaid = λ _. same;
    never = ((λ e. omega (arith, is, e)), λ e. omega (arith, is, e));
  }

  -- a disk was stopped
  pub unformatted : (given : Input) (before after : Outside D) (answer : Answer M) →
      Gave (source_view before.left before.faults) (source_view after.left after.faults) given →
      Comes m given before.rack (left_by after answer) answer.why (Err silence.Disk) → answer.status ≡ 7 → after.taken ≡ before.taken →
      RunsPrograms m before after answer
  unformatted given before after answer reads comes is same = record {
    given = given;
    reads = reads;
    says = λ _ _ _ seven. absurd (seven is);
    front = λ e. absurd (omega (arith, is, e));
    fault = λ e. absurd (omega (arith, is, e));
    memory = λ e. absurd (omega (arith, is, e));
    stopped = λ _. comes;
    unsaid = λ _. same;
    never = ((λ e. omega (arith, is, e)), λ e. omega (arith, is, e));
  }

  -- memory was wanting
  pub unremembered : (given : Input) (before after : Outside D) (answer : Answer M) →
      Gave (source_view before.left before.faults) (source_view after.left after.faults) given →
      Comes m given before.rack (left_by after answer) answer.why (Err silence.Memory) → answer.status ≡ 5 → after.taken ≡ before.taken →
      RunsPrograms m before after answer
  unremembered given before after answer reads comes is same = record {
    given = given;
    reads = reads;
    says = λ _ _ five _. absurd (five is);
    front = λ e. absurd (omega (arith, is, e));
    fault = λ e. absurd (omega (arith, is, e));
    memory = λ _. comes;
    stopped = λ e. absurd (omega (arith, is, e));
    unsaid = λ _. same;
    never = ((λ e. omega (arith, is, e)), λ e. omega (arith, is, e));
  }
