-- Tops that a step decides come behind those that were decided: by the journal their turns are kept.
use Rattle.arj_law_parts.proofs.Words
use Words.{◌≡◌, ◌⊎◌, ℕ, List, [], ◌∷◌, ◌++◌, true, false, refl, sym, ◌∙◌, ap, subst, inl, inr, ⊎_elim, is_on, Line, Uid, uid_number, Seen}
use Rattle.arj_law_serial.proofs.Terms
use Terms.{Whole, World, Done, decided, bool_cases, never, in_decided, IsLater, book, is_decided, IsKept, decided_later, AreDone, IsDoneBy}
use Terms.{IsPlain, KnowsIdle, AreCalled, NewTops, called_later, in_both, in_front, AreTurns, IsCalledFirst, IsOrdered, IsTurn}
use Rattle.arj_law_disk.specs.machine.Words.{In}
use Rattle.arj_law_disk_view.proofs.{deciding_lines.Steps.plain_more, running.Grows.later_lines}

and_more : (xs ys zs : List Line) → (xs ++ ys) ++ zs ≡ xs ++ (ys ++ zs)
and_more [] ys zs = refl
and_more (x ∷ xs) ys zs = ap (λ ws. x ∷ ws) (and_more xs ys zs)

-- ---- more lines

module _ (Idle : List Line → Uid → Type 0) (ls ks : List Line) (stays : (u : Uid) → Idle ls u → Idle (ls ++ ks) u) where
  turn_later : (e d : ℕ) → IsTurn Idle ls e d → IsTurn Idle (ls ++ ks) e d
  turn_later e d turn t u te ud apart = by (turn t u te ud apart)
    where
      by : IsCalledFirst ls t u ⊎ Idle ls u ⊎ IsPlain ls u → IsCalledFirst (ls ++ ks) t u ⊎ Idle (ls ++ ks) u ⊎ IsPlain (ls ++ ks) u
      by (inl (before, behind, is, called, undone)) =
          inl (before, behind ++ ks, ap (λ l. l ++ ks) is ∙ and_more before behind ks, called, undone)
      by (inr (inl i)) = inr (inl (stays u i))
      by (inr (inr p)) = inr (inr (plain_more ls ks u p))

  turns_later : (ds : List Done) → AreTurns Idle ls ds → AreTurns Idle (ls ++ ks) ds
  turns_later [] turns = tt
  turns_later (d ∷ ds) turns = (λ e i. turn_later e.top d.top (turns.0 e i), turns_later ds turns.1)

  -- with newly decided ones before them
  turns_grow : (new old : List Done) → AreTurns Idle ls old → AreCalled ls old → AreCalled ls new → ((d : Done) → In d new → (u : Uid) →
      uid_number u ≡ d.top → (is_decided (book ls) u ≡ false) ⊎ Idle (ls ++ ks) u ⊎ IsPlain (ls ++ ks) u) →
      AreTurns Idle (ls ++ ks) (new ++ old)
  turns_grow [] old turns called news fresh = turns_later old turns
  turns_grow (d ∷ new) old turns called news fresh = (
    λ e i t u te ud apart. by t u (first e t te (in_both e new old i)) (fresh d (inl refl) u ud),
    turns_grow new old turns called (λ e i. news e (inr i)) (λ e i. fresh e (inr i)),
  )
    where
      first : (e : Done) (t : Uid) → uid_number t ≡ e.top → In e new ⊎ In e old → is_on (book ls).called t ≡ true
      first e t te (inl i) = news e (inr i) t te
      first e t te (inr i) = called e i t te

      by : (t u : Uid) → is_on (book ls).called t ≡ true → (is_decided (book ls) u ≡ false) ⊎ Idle (ls ++ ks) u ⊎ IsPlain (ls ++ ks) u →
          IsCalledFirst (ls ++ ks) t u ⊎ Idle (ls ++ ks) u ⊎ IsPlain (ls ++ ks) u
      by t u on (inl undone) = inl (ls, ks, refl, on, undone)
      by t u on (inr rest) = inr rest

-- ---- a step

-- idle, and decided by the journal
abbrev pub IdleThere : (List Line → Uid → Type 0) → List Line → Uid → Type 0
IdleThere Idle lines u = (is_decided (book lines) u ≡ true) × Idle lines u

module _ (R : Seen → Type 0) (Idle : List Line → Uid → Type 0) (idles : KnowsIdle R Idle) (W V : World) (M N : Seen) (more : List Line)
    (lines : N.lines ≡ M.lines ++ more) (later : IsLater W V) (whole : Whole V) (r : R N) (known : IsKept N) (done : AreDone Idle W M) where
  stays : (u : Uid) → IdleThere Idle M.lines u → IdleThere Idle (M.lines ++ more) u
  stays u i = (
    decided_later (book M.lines) (book (M.lines ++ more)) (later_lines M.lines more) u i.0,
    subst (λ ls. Idle ls u) lines (idles.stays N r known M.lines more u lines i.0 i.1),
  )

  -- who is newly decided wasn't so by the lines before
  fresh : (n : NewTops W V M.lines) (d : Done) → In d n.new → (u : Uid) → uid_number u ≡ d.top →
      (is_decided (book M.lines) u ≡ false) ⊎ IdleThere Idle (M.lines ++ more) u ⊎ IsPlain (M.lines ++ more) u
  fresh n d i u ud = ⊎_elim (λ on. by on (done u on)) (λ off. inl off) (bool_cases (is_decided (book M.lines) u))
    where
      now : decided V.disk (uid_number u) ≡ true
      now = ap (decided V.disk) ud ∙ in_decided V.disk.tops d (subst (In d) (sym n.are) (in_front d n.new W.disk.tops i))

      by : is_decided (book M.lines) u ≡ true → IsDoneBy Idle W M.lines u →
          (is_decided (book M.lines) u ≡ false) ⊎ IdleThere Idle (M.lines ++ more) u ⊎ IsPlain (M.lines ++ more) u
      by on (inl was) = absurd (never (ap (decided W.disk) (sym ud) ∙ was) (n.undone d i))
      by on (inr (inl bare)) = absurd (never now (whole.core.bare.undone (uid_number u) (later.bare (uid_number u) bare)))
      by on (inr (inr (inl idle))) = inr (inl (stays u (on, idle)))
      by on (inr (inr (inr plain))) = inr (inr (plain_more M.lines more u plain))

  pub ordered_step : NewTops W V M.lines → IsOrdered (IdleThere Idle) W M → IsOrdered (IdleThere Idle) V N
  ordered_step n o = record {
    once = n.once o.once;
    called = subst (λ ls. AreCalled ls V.disk.tops) (sym lines) (subst (AreCalled (M.lines ++ more)) (sym n.are) called_so);
    turns = subst (λ ls. AreTurns (IdleThere Idle) ls V.disk.tops) (sym lines) (subst (AreTurns (IdleThere Idle) (M.lines ++ more))
        (sym n.are) (turns_grow (IdleThere Idle) M.lines more stays n.new W.disk.tops o.turns o.called n.called (fresh n)));
  }
    where
      called_so : AreCalled (M.lines ++ more) (n.new ++ W.disk.tops)
      called_so d i u ud =
          called_later M.lines more u (⊎_elim (λ a. n.called d a u ud) (λ b. o.called d b u ud) (in_both d n.new W.disk.tops i))
