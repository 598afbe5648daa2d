-- Which lines a step of a node says: those of its parts, and of what it was asked whether it took a frame, refused, or halted.
use Rattle.arj_law_parts.proofs.Words
use Words.{◌≡◌, ℕ, true, List, [], ◌∷◌, ◌++◌, refl, sym, subst, list_all, and_parts, ⊤, AllByRecursion, Effect, Say, Send, Do}
use Words.{Node, Input, Step, Restart, Crash, refusal, Body, Header, Some}
use Words.input as step
use Words.body
use Rattle.arj_law_parts.proofs.steps.Shapes.{Shape, IsCrash, IsGot, IsNothing, IsPlain, IsRefusal, IsRestart, IsUnread, IsVoid, step_shape}
use Rattle.arj_law_parts.proofs.steps.Still.{Still, is_still, says_still}
use Rattle.arj_law_parts.specs.steps.Spoken.{SaidIn, is_of_parts}
use Rattle.arj_protocol.specs.Step.{Frame}

-- a still line is one of the node's parts
still_line : (b : Body) → is_still b ≡ true → is_of_parts b ≡ true
still_line (body.Sent a b c d) is = absurd (cc is)
still_line (body.Got a) is = absurd (cc is)
still_line (body.Void a) is = absurd (cc is)
still_line (body.Dropped a) is = absurd (cc is)
still_line (body.Halted a) is = absurd (cc is)
still_line (body.Armed a) is = absurd (cc is)
still_line (body.Refused a) is = absurd (cc is)
still_line (body.Quiet a) is = absurd (cc is)
still_line (body.Bad a) is = absurd (cc is)
still_line (body.Limit a) is = absurd (cc is)
still_line (body.Began a b c d) is = refl
still_line (body.Ok a b c d) is = refl
still_line (body.Includes a b c) is = refl
still_line (body.Conflict a b c d) is = refl
still_line (body.Lost a b) is = refl
still_line (body.Changed a b c) is = refl
still_line (body.Committing a) is = refl
still_line (body.Committed a) is = refl
still_line (body.Ended a) is = refl
still_line (body.Aborted a b) is = refl
still_line (body.GaveUp a b) is = refl
still_line (body.Excluded a b c) is = refl
still_line (body.Granted a b c d) is = refl
still_line (body.Lowered a b c) is = refl
still_line (body.Bound a b c) is = refl
still_line (body.Active a b c) is = refl
still_line (body.Told a b c d) is = refl
still_line (body.Prepared a b c) is = refl
still_line (body.Done a b c d) is = refl
still_line (body.Up a b) is = refl
still_line (body.Recovered a b) is = refl
still_line (body.Entry a b c d) is = refl
still_line (body.Copy a b c d e) is = refl

module _ (S : Body → Type 0) (parts : (b : Body) → is_of_parts b ≡ true → S b) where
  abbrev Said : List Effect → Type 0
  Said outs = AllByRecursion (SaidIn S) outs

  still_said : (es : List Effect) → Still es → Said es
  still_said [] all = tt
  still_said (Say b ∷ es) all =
      let own = and_parts (is_still b) (list_all says_still es) all in (parts b (still_line b own.0), still_said es own.1)
  still_said (Send to m ∷ es) all = (tt, still_said es all)
  still_said (Do w ∷ es) all = (tt, still_said es all)

  said_then : (es : List Effect) (b : Body) → Said es → S b → Said (es ++ Say b ∷ [])
  said_then [] b all its = (its, tt)
  said_then (e ∷ es) b all its = (all.0, said_then es b all.1 its)

  -- both of a step
  abbrev Both : Step → Type 0
  Both s = Said s.outs × Said s.halting

  -- what is said of the input itself: of a frame that it was got or void, of a crash that the node halted
  abbrev pub OfInput : Node → Input → Type 0
  OfInput n (Frame k from m) = S (body.Got k) × S (body.Void k)
  OfInput n Crash = S (body.Halted n.number)
  OfInput n _ = ⊤

  -- so it is of all lines of a step, if also of the refusal
  pub step_says : (hd : Header) (n : Node) (i : Input) → OfInput n i → ((c : ℕ) → refusal hd i n ≡ Some c → S (body.Refused c)) →
      Both (step.step hd n i)
  step_says hd n i own refused = by (step.step hd n i) (step_shape hd n i)
    where
      both : (s : Step) (a b : List Effect) → s.outs ≡ a → s.halting ≡ b → Said a → Said b → Both s
      both s a b outs halting said too = (subst Said (sym outs) said, subst Said (sym halting) too)

      by : (s : Step) → Shape hd n i s → Both s
      by s (IsRefusal c is same) = subst Both (sym same) ((refused c is, tt), (refused c is, tt))
      by s (IsNothing other outs halting after) = both s [] [] outs halting tt tt
      by s (IsPlain other up all same live) = let said = still_said s.outs all in (said, subst Said (sym same) said)
      by s (IsGot k from m o is up all outs halting live) =
          let takes = subst (OfInput n) is own in
          let said = still_said o all in
          both s (Say (body.Got k) ∷ o) (Say (body.Got k) ∷ o) outs halting (takes.0, said) (takes.0, said)
      by s (IsVoid k from m o is up may all outs halting after) =
          let takes = subst (OfInput n) is own in
          let said = still_said o all in
          both s (o ++ Say (body.Void k) ∷ []) (Say (body.Got k) ∷ o) outs halting (said_then o (body.Void k) said takes.1) (takes.0, said)
      by s (IsUnread k from m is why outs halting after) =
          let takes = subst (OfInput n) is own in
          both s (Say (body.Void k) ∷ []) (Say (body.Got k) ∷ []) outs halting (takes.1, tt) (takes.0, tt)
      by s (IsRestart inc o is down same all outs halting live) =
          let said = subst Said (sym outs) (tt, (tt, (parts (body.Up n.number inc) refl, still_said o all))) in
          (said, subst Said (sym halting) said)
      by s (IsCrash is up outs halting live) =
          let said = subst Said (sym outs) (subst (OfInput n) is own, tt) in (said, subst Said (sym halting) said)
