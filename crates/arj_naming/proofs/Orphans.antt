-- Entries that are aborted, one action after another.
use Rattle.std.proofs.Common.{◌≡◌, ◌∙◌, ◌+◌, ◌<◌, ◌++◌, ℕ, List, [], ◌∷◌, take, drop, length, get_or, sym, ap, subst}
use Rattle.std.proofs.lemmas.Grind.{flat_map-append}
use Rattle.std.proofs.lemmas.List.{append-nil, append_assoc, drop_more, take_more, take-append-drop}
use Rattle.arj_base.specs.Uid.{nobody}
use Rattle.arj_journal.specs.declared.body.Line.{Line}
use Rattle.arj_naming.specs.Ends.{abort_all}
use Rattle.arj_naming.specs.Kept.{IsCut, IsDoneInPart}
use Rattle.arj_naming.specs.Said.{said, pair_after}
use Rattle.arj_naming.proofs.Cuts.{after_append, said_append, cut_front, cut_back, part_front, part_back}
use Rattle.arj_protocol.specs.Effect.{Effect, Pair}
use Rattle.arj_protocol.specs.Naming.{end_entries}
use Rattle.arj_protocol.specs.Words.{Uid}
use Rattle.arj_protocol.specs.Words.ending
use Rattle.arj_store.specs.Pair as files

abbrev ends : Uid → List Effect
ends act = end_entries act ending.Abort

module _ (xs : List Uid) (i : ℕ) (within : i < length xs) (d middle : Pair) (before between : List Line) (pair_is : middle ≡ pair_after (abort_all (take i xs)) d) (lines_are : between ≡ before ++ said (abort_all (take i xs))) where
  abbrev x : Uid
  x = get_or xs i nobody

  one_more : abort_all (take (i + 1) xs) ≡ abort_all (take i xs) ++ ends x
  one_more = ap abort_all (take_more xs i nobody within) ∙ (flat_map-append ends (take i xs) (x ∷ []) ∙ ap (λ es. abort_all (take i xs) ++ es) (append-nil (ends x)))

  split : abort_all xs ≡ abort_all (take i xs) ++ (ends x ++ abort_all (drop (i + 1) xs))
  split = ap abort_all (sym (take-append-drop i xs) ∙ ap (λ us. take i xs ++ us) (drop_more xs i nobody within)) ∙ flat_map-append ends (take i xs) (x ∷ drop (i + 1) xs)

  pub one_cut : (p : files.Pair) (after : List Line) → IsCut (ends x) middle p between after → IsCut (abort_all xs) d p before after
  one_cut p after cut =
      subst (λ es. IsCut es d p before after) (sym split)
      (cut_back (abort_all (take i xs)) (ends x ++ abort_all (drop (i + 1) xs)) d p before after
      (cut_front (ends x) (abort_all (drop (i + 1) xs)) (pair_after (abort_all (take i xs)) d) p (before ++ said (abort_all (take i xs))) after
      (subst (λ ls. IsCut (ends x) (pair_after (abort_all (take i xs)) d) p ls after) lines_are (subst (λ m. IsCut (ends x) m p between after) pair_is cut))))

  pub one_part : (p : files.Pair) → IsDoneInPart (ends x) middle p → IsDoneInPart (abort_all xs) d p
  one_part p part =
      subst (λ es. IsDoneInPart es d p) (sym split)
      (part_back (abort_all (take i xs)) (ends x ++ abort_all (drop (i + 1) xs)) d p
      (part_front (ends x) (abort_all (drop (i + 1) xs)) (pair_after (abort_all (take i xs)) d) p (subst (λ m. IsDoneInPart (ends x) m p) pair_is part)))

  pub one_pair : (new : Pair) → new ≡ pair_after (ends x) middle → new ≡ pair_after (abort_all (take (i + 1) xs)) d
  one_pair new is =
      is ∙ ((λ j. pair_after (ends x) (pair_is j)) ∙ (sym (after_append (abort_all (take i xs)) (ends x) d) ∙ (λ j. pair_after (sym one_more j) d)))

  pub one_said : (after : List Line) → after ≡ between ++ said (ends x) → after ≡ before ++ said (abort_all (take (i + 1) xs))
  one_said after is =
      is ∙ ((λ j. lines_are j ++ said (ends x)) ∙ (append_assoc before (said (abort_all (take i xs))) (said (ends x)) ∙ ((λ j. before ++ sym (said_append (abort_all (take i xs)) (ends x)) j) ∙ (λ j. before ++ said (sym one_more j)))))
