-- An end is what its parts do.
use Rattle.std.proofs.Common.{◌≡◌, ◌∙◌, ◌++◌, Bool, true, false, cond, List, [], ◌∷◌, refl, sym, ap, subst, Option, Some, None}
use Rattle.std.proofs.lemmas.List.{append_assoc}
use Rattle.arj_journal.specs.declared.body.Line.{Line}
use Rattle.arj_naming.specs.Ends.{abort_all, finished, orphans_by, taken_by}
use Rattle.arj_naming.specs.Confirming.{AreLines}
use Rattle.arj_naming.specs.Kept.{IsCut, IsDoneInPart}
use Rattle.arj_naming.specs.Said.{said, pair_after}
use Rattle.arj_naming.proofs.Cuts.{after_append, after_lines, said_append, cut_front, cut_back, part_front, part_back}
use Rattle.arj_protocol.specs.Effect.{Effect, Say, Pair, did_nothing}
use Rattle.arj_protocol.specs.Naming.{Naming, has_locks, own_entries, taken_end, told, told_new}
use Rattle.arj_protocol.specs.Words.{Uid, End, is_on}
use Rattle.arj_protocol.specs.Words.body
use Rattle.arj_protocol.specs.Words.ending
use Rattle.arj_protocol.specs.Words.part
use Rattle.arj_store.specs.Pair as files

module _ (u : Uid) (e : End) (d : Pair) (n : Naming) where
  abbrev own : List Effect
  own = own_entries u e d

  abbrev others : List Effect
  others = abort_all (orphans_by u (taken_by u e n) d n)

  abbrev last : List Effect
  last = (finished u (taken_by u e n) n).outs

  rest_is : (cond (is_on n.told u) (did_nothing n) (told_new u (taken_end u e n) d n)).outs ≡ others ++ last
  rest_is = by (is_on n.told u) (taken_end u e n)
    where
      by : (b : Bool) (t : End) →
          (cond b (did_nothing n) (told_new u t d n)).outs ≡ abort_all (orphans_by u (cond b None (Some t)) d n) ++ (finished u (cond b None (Some t)) n).outs
      by true t = refl
      by false ending.Commit = refl
      by false ending.Abort = refl

  pub told_outs : (told u e d n).outs ≡ own ++ (others ++ last)
  told_outs = ap (λ es. own ++ es) rest_is

  pub told_part : (told u e d n).part ≡ (finished u (taken_by u e n) n).part
  told_part = by (is_on n.told u) (taken_end u e n)
    where
      by : (b : Bool) (t : End) → (cond b (did_nothing n) (told_new u t d n)).part ≡ (finished u (cond b None (Some t)) n).part
      by true t = refl
      by false t = refl

  only_lines : AreLines last
  only_lines = by (taken_by u e n)
    where
      said_told : (t : End) (b : Bool) → AreLines (cond b (Say (body.Told 1 u t part.Naming) ∷ []) [])
      said_told t true = tt
      said_told t false = tt

      by : (t : Option End) → AreLines (finished u t n).outs
      by None = tt
      by (Some t) = said_told t (has_locks u n)

  pub own_part : (p : files.Pair) → IsDoneInPart own d p → IsDoneInPart (told u e d n).outs d p
  own_part p done = subst (λ es. IsDoneInPart es d p) (sym told_outs) (part_front own (others ++ last) d p done)

  pub own_cut : (p : files.Pair) (before after : List Line) → IsCut own d p before after → IsCut (told u e d n).outs d p before after
  own_cut p before after cut = subst (λ es. IsCut es d p before after) (sym told_outs) (cut_front own (others ++ last) d p before after cut)

  module _ (us : List Uid) (us_are : us ≡ orphans_by u (taken_by u e n) d n) (m : Pair) (m_is : m ≡ pair_after own d) (before between : List Line) (lines : between ≡ before ++ said own) where
    pub others_cut : (p : files.Pair) (after : List Line) → IsCut (abort_all us) m p between after →
        IsCut (told u e d n).outs d p before after
    others_cut p after cut =
        subst (λ es. IsCut es d p before after) (sym told_outs)
        (cut_back own (others ++ last) d p before after
        (cut_front others last (pair_after own d) p (before ++ said own) after
        (subst (λ ls. IsCut others (pair_after own d) p ls after) lines (subst (λ x. IsCut others x p between after) m_is (subst (λ ws. IsCut (abort_all ws) m p between after) us_are cut)))))

    pub others_part : (p : files.Pair) → IsDoneInPart (abort_all us) m p → IsDoneInPart (told u e d n).outs d p
    others_part p done =
        subst (λ es. IsDoneInPart es d p) (sym told_outs)
        (part_back own (others ++ last) d p (part_front others last (pair_after own d) p (subst (λ x. IsDoneInPart others x p) m_is (subst (λ ws. IsDoneInPart (abort_all ws) m p) us_are done))))

    pub pair_is : (new : Pair) → new ≡ pair_after (abort_all us) m → new ≡ pair_after (told u e d n).outs d
    pair_is new is =
        is ∙ ((λ i. pair_after (abort_all (us_are i)) (m_is i)) ∙ (sym (after_append own others d) ∙ (sym (after_lines last (pair_after (own ++ others) d) only_lines)
        ∙ (sym (after_append (own ++ others) last d) ∙ (λ i. pair_after ((append_assoc own others last ∙ sym told_outs) i) d)))))

    pub lines_are : (late after : List Line) → late ≡ between ++ said (abort_all us) → after ≡ late ++ said last →
        after ≡ before ++ said (told u e d n).outs
    lines_are late after is ends =
        ends ∙ ((λ i. is i ++ said last) ∙ ((λ i. (lines i ++ said (abort_all (us_are i))) ++ said last)
        ∙ ((λ i. append_assoc before (said own) (said others) i ++ said last) ∙ (append_assoc before (said own ++ said others) (said last)
        ∙ ((λ i. before ++ (sym (said_append own others) i ++ said last)) ∙ ((λ i. before ++ sym (said_append (own ++ others) last) i) ∙ (λ i. before ++ said ((append_assoc own others last ∙ sym told_outs) i))))))))
