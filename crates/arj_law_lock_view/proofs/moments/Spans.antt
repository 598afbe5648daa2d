-- Answers in whole runs, and who takes them.
use Rattle.arj_law_parts.proofs.Words
use Words.{◌≤◌, ◌∙◌, ⊎_elim, inl, inr, sym, subst, ap, Asked}
use Rattle.arj_law_lock_view.proofs.moments.Answers.{Known, answers_keep}
use Rattle.arj_law_lock_view.specs.moments.Made.{AnswersAreMade, Saying, Tells}
use Rattle.arj_law_lock_view.specs.moments.Runs.{AnswersAreTakenInSpan, RunsMakeAnswers, says_nothing}
use Rattle.arj_law_parts.proofs.moves.{Events.run_with, Happens.Wide}

pub taken_in_span : (S : Saying) → AnswersAreTakenInSpan S
taken_in_span S M all p a r there is k asked act first =
    let z = all.sent p a r there is in
    let m = z.3.made in (
      z.0,
      z.1,
      z.2,
      record {
        before = m.before;
        after = m.after;
        are = m.are;
        behind = m.behind k asked (act ∙ ap (λ (b : Asked). b.act) (sym z.2))
            (subst (λ n. k.first ≤ n) (ap (λ (b : Asked). b.req) (sym z.2)) first);
        framed = ⊎_elim (λ same. inl same) (λ f. inr (⊎_elim (λ b. b) (λ never. absurd never) f)) m.framed;
        so = m.so;
      },
    )

pub runs_make : RunsMakeAnswers
runs_make hd r =
    let h = run_with hd (λ M. Wide Known M × AnswersAreMade says_nothing M) (answers_keep hd says_nothing nothing) r in
    record {
      now = record {
        sent = h.now.sent;
        stands = h.now.stands;
        number = h.now.number;
        wrote = h.now.wrote;
        holds = h.now.holds.1;
      };
      count = h.count;
      lines = h.lines;
    }
  where
    nothing : Tells (Wide Known) says_nothing
    nothing k d t v from m q a s front M known sent other meant asks new is = tt
