-- Calls that give their answers one after another are each answered by the writes before them, and the other way round.
use Rattle.std.proofs.Common.{◌≡◌, ◌<◌, List, [], ◌∷◌, ◌++◌, false, cond, ◌&&◌, nat_lt, refl, sym, ◌∙◌, ap, subst, filter, append_assoc}
use Rattle.std.proofs.Common.{lt-ltb}
use Rattle.std.specs.List.{AllByRecursion}
use Rattle.arj_class.specs.Table.{answer_of}
use Rattle.arj_journal.specs.declared.body.Line.{Line}
use Rattle.arj_law.proofs.Answers.{book_answers, run-append, run_writes}
use Rattle.arj_law.proofs.Common.{Pairwise, all_map, filter_none, not_below_back, not_below_itself, pairwise_before, pairwise_behind}
use Rattle.arj_law.proofs.Order.{rises}
use Rattle.arj_model.specs.Book.{Answered, IsAnsweredBy, writes_before}
use Rattle.arj_model.specs.Calls.{Call, committed_calls}
use Rattle.arj_model.specs.Serial.{Answers, Values, run, writes_on}
use Rattle.arj_text.specs.Words.{answer_text}

-- the writes before a call are those of the list in front of it
before_writes : (front rest : List Call) (c : Call) → AllByRecursion (λ w. w.at < c.at) front → AllByRecursion (λ w. c.at < w.at) rest →
    writes_before (front ++ c ∷ rest) c ≡ filter (writes_on c.x) front
before_writes [] rest c fs rs =
    let none : AllByRecursion (λ w. (nat_lt w.at c.at && writes_on c.x w) ≡ false) rest =
    all_map (λ w. c.at < w.at) (λ w. (nat_lt w.at c.at && writes_on c.x w) ≡ false)
    (λ w e. (λ i. not_below_back c.at w.at e i && writes_on c.x w)) rest rs in
    filter_none (λ w. nat_lt w.at c.at && writes_on c.x w) (c ∷ rest) ((λ i. not_below_itself c.at i && writes_on c.x c), none)
before_writes (w ∷ front) rest c fs rs =
    let ih = before_writes front rest c fs.1 rs in
    (λ i. cond (lt-ltb w.at c.at fs.0 i && writes_on c.x w) (w ∷ ih i) (ih i))

-- what is found before a call is what the calls in front of it leave
found_before : (values : Values) (front rest : List Call) (c : Call) → Pairwise (λ a b. a.at < b.at) (front ++ c ∷ rest) →
    run values (writes_before (front ++ c ∷ rest) c) c.x ≡ run values front c.x
found_before values front rest c p =
    ap (λ ws. run values ws c.x) (before_writes front rest c (pairwise_before (λ (a b : Call). a.at < b.at) front c rest p)
    (pairwise_behind (λ (a b : Call). a.at < b.at) front c rest p)) ∙ run_writes values values c.x front refl

answers_book : (values : Values) (front rest : List Call) → Pairwise (λ a b. a.at < b.at) (front ++ rest) → Answers (run values front) rest →
    AllByRecursion (IsAnsweredBy values (front ++ rest)) rest
answers_book values front [] p a = tt
answers_book values front (c ∷ rest) p a =
    let more : (front ++ c ∷ []) ++ rest ≡ front ++ c ∷ rest = append_assoc front (c ∷ []) rest in (
      subst (λ v. answer_text (answer_of c.op v) ≡ c.answer) (sym (found_before values front rest c p)) a.0,
      subst (λ cs. AllByRecursion (IsAnsweredBy values cs) rest) more
          (answers_book values (front ++ c ∷ []) rest (subst (Pairwise (λ a b. a.at < b.at)) (sym more) p)
          (subst (λ w. Answers w rest) (sym (run-append values front (c ∷ []))) a.1)),
    )

pub answered_of : (values : Values) (lines : List Line) → Answers values (committed_calls lines) → Answered values lines
answered_of values lines = answers_book values [] (committed_calls lines) (rises lines)

pub of_answered : (values : Values) (lines : List Line) → Answered values lines → Answers values (committed_calls lines)
of_answered values lines = book_answers values [] (committed_calls lines) (rises lines)
