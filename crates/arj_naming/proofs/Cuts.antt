-- Effects one behind the other: what they say, what they leave of the pair, and where they are cut.
use Rattle.std.proofs.Common.{◌≡◌, ◌⊎◌, ◌∙◌, List, [], ◌∷◌, ◌++◌, refl, sym, ap, subst, inl, inr, ⊎_elim}
use Rattle.std.proofs.lemmas.List.{append-nil, append_assoc}
use Rattle.arj_journal.specs.declared.body.Line.{Line}
use Rattle.arj_naming.specs.Confirming.{AreLines}
use Rattle.arj_law_store.specs.store.Files.{IsPairOf}
use Rattle.arj_naming.specs.Kept.{IsCut, IsDoneInPart, pair_stopped}
use Rattle.arj_naming.specs.Said.{said, pair_after, pair_worked}
use Rattle.arj_protocol.specs.Effect.{Effect, Say, Send, Do, Work, Pair, Stop}
use Rattle.arj_store.specs.Pair as files

pub after_append : (a b : List Effect) (d : Pair) → pair_after (a ++ b) d ≡ pair_after b (pair_after a d)
after_append [] b d = refl
after_append (Say t ∷ es) b d = after_append es b d
after_append (Send to m ∷ es) b d = after_append es b d
after_append (Do w ∷ es) b d = after_append es b (pair_worked w d)

pub after_lines : (a : List Effect) (d : Pair) → AreLines a → pair_after a d ≡ d
after_lines [] d lines = refl
after_lines (Say t ∷ es) d lines = after_lines es d lines
after_lines (Send to m ∷ es) d lines = absurd lines
after_lines (Do w ∷ es) d lines = absurd lines

pub said_append : (a b : List Effect) → said (a ++ b) ≡ said a ++ said b
said_append [] b = refl
said_append (Say t ∷ es) b = ap (λ ls. record { event = 0; body = t } ∷ ls) (said_append es b)
said_append (Send to m ∷ es) b = said_append es b
said_append (Do w ∷ es) b = said_append es b

pub cut_front : (a b : List Effect) (d : Pair) (p : files.Pair) (before after : List Line) → IsCut a d p before after →
    IsCut (a ++ b) d p before after
cut_front a b d p before after c = record {
  front = c.front;
  work = c.work;
  back = c.back ++ b;
  how = c.how;
  are = ap (λ es. es ++ b) c.are ∙ append_assoc c.front (Do c.work ∷ c.back) b;
  pair = c.pair;
  lines = c.lines;
}

pub cut_back : (a b : List Effect) (d : Pair) (p : files.Pair) (before after : List Line) →
    IsCut b (pair_after a d) p (before ++ said a) after → IsCut (a ++ b) d p before after
cut_back a b d p before after c = record {
  front = a ++ c.front;
  work = c.work;
  back = c.back;
  how = c.how;
  are = ap (λ es. a ++ es) c.are ∙ sym (append_assoc a c.front (Do c.work ∷ c.back));
  pair = subst (λ x. IsPairOf p (pair_stopped c.how c.work x)) (sym (after_append a c.front d)) c.pair;
  lines = c.lines ∙ append_assoc before (said a) (said c.front) ∙ ap (λ ls. before ++ ls) (sym (said_append a c.front));
}

pub part_front : (a b : List Effect) (d : Pair) (p : files.Pair) → IsDoneInPart a d p → IsDoneInPart (a ++ b) d p
part_front a b d p c = record {
  front = c.front;
  back = c.back ++ b;
  are = ap (λ es. es ++ b) c.are ∙ append_assoc c.front c.back b;
  pair = ⊎_elim (λ (done : IsPairOf p (pair_after c.front d)). inl done) (λ (cut : (how : Stop) × (work : Work) × (rest : List Effect) × (c.back ≡ Do work ∷ rest) × IsPairOf p (pair_stopped how work (pair_after c.front d))).
      inr (cut.0, cut.1, cut.2 ++ b, ap (λ es. es ++ b) cut.3, cut.4)) c.pair;
}

pub part_back : (a b : List Effect) (d : Pair) (p : files.Pair) → IsDoneInPart b (pair_after a d) p → IsDoneInPart (a ++ b) d p
part_back a b d p c = record {
  front = a ++ c.front;
  back = c.back;
  are = ap (λ es. a ++ es) c.are ∙ sym (append_assoc a c.front c.back);
  pair = subst (λ x. IsPairOf p x ⊎ ((how : Stop) × (work : Work) × (rest : List Effect) × (c.back ≡ Do work ∷ rest) × IsPairOf p (pair_stopped how work x))) (sym (after_append a c.front d)) c.pair;
}

-- nothing is done yet
pub part_none : (a : List Effect) (d : Pair) (p : files.Pair) → IsPairOf p d → IsDoneInPart a d p
part_none a d p are = record { front = []; back = a; are = refl; pair = inl are }

-- all is done
pub part_all : (a : List Effect) (d : Pair) (p : files.Pair) → IsPairOf p (pair_after a d) → IsDoneInPart a d p
part_all a d p are = record { front = a; back = []; are = sym (append-nil a); pair = inl are }
