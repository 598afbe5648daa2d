-- No step but a crash says that a node halted, and none says that a disk was armed.
use Rattle.arj_law_parts.proofs.Words
use Words.{◌≡◌, ◌==◌, ◌&&◌, ℕ, Bool, true, false, List, [], ◌∷◌, ◌++◌, refl, sym, ap, subst, ◌∙◌, Option, Some, None, arith, list_all}
use Words.{and_parts}
use Words.{all_both, Work, Effect, Say, Send, Do, Parts, AreAll, Node, Input, Step, Begin, Call, GiveUp, Tick, Restart, Crash, Show}
use Words.{refusal, step_of, step_unless, Body, Message, Header}
use Words.input as step
use Words.body
use Rattle.arj_law_parts.proofs.steps.Still.{Still, is_still, says_still}
use Rattle.arj_law_parts.proofs.steps.Shapes.{Shape, IsCrash, IsGot, IsNothing, IsPlain, IsRefusal, IsRestart, IsUnread, IsVoid, step_shape}
use Rattle.arj_law_parts.specs.steps.Halts.{is_crash, is_no_arm, is_no_halt, says_no_arm, says_no_halt, says_own_halt}
use Rattle.arj_protocol.specs.Step.{Include, Commit, Abort, Frame}

-- a line says neither
abbrev is_no_stop : Body → Bool
is_no_stop b = is_no_halt b && is_no_arm b

abbrev says_no_stop : Effect → Bool
says_no_stop (Say b) = is_no_stop b
says_no_stop _ = true

abbrev Good : List Effect → Type 0
Good outs = AreAll says_no_stop outs

-- a still line says neither
still_line : (b : Body) → is_still b ≡ true → is_no_stop b ≡ true
still_line (body.Began a b c d) is = refl
still_line (body.Ok a b c d) is = refl
still_line (body.Includes a b c) is = refl
still_line (body.Conflict a b c d) is = refl
still_line (body.Lost a b) is = refl
still_line (body.Changed a b c) is = refl
still_line (body.Committing a) is = refl
still_line (body.Committed a) is = refl
still_line (body.Ended a) is = refl
still_line (body.Aborted a b) is = refl
still_line (body.GaveUp a b) is = refl
still_line (body.Excluded a b c) is = refl
still_line (body.Granted a b c d) is = refl
still_line (body.Lowered a b c) is = refl
still_line (body.Bound a b c) is = refl
still_line (body.Active a b c) is = refl
still_line (body.Told a b c d) is = refl
still_line (body.Prepared a b c) is = refl
still_line (body.Done a b c d) is = refl
still_line (body.Sent a b c d) is = refl
still_line (body.Got a) is = refl
still_line (body.Void a) is = refl
still_line (body.Dropped a) is = refl
still_line (body.Halted a) is = cc
still_line (body.Up a b) is = refl
still_line (body.Armed a) is = cc
still_line (body.Recovered a b) is = refl
still_line (body.Refused a) is = refl
still_line (body.Entry a b c d) is = refl
still_line (body.Copy a b c d e) is = refl
still_line (body.Quiet a) is = refl
still_line (body.Bad a) is = refl
still_line (body.Limit a) is = refl

still_good : (es : List Effect) → Still es → Good es
still_good [] all = refl
still_good (Say b ∷ es) all = let own = and_parts (is_still b) (list_all says_still es) all in
    λ i. still_line b own.0 i && still_good es own.1 i
still_good (Send to m ∷ es) all = still_good es all
still_good (Do w ∷ es) all = still_good es all

-- both of a step
abbrev Both : Step → Type 0
Both s = Good s.outs × Good s.halting

step_good : (hd : Header) (n : Node) (i : Input) → is_crash i ≡ false → Both (step.step hd n i)
step_good hd n i isnt = by (step.step hd n i) (step_shape hd n i)
  where
    both : (s : Step) (a b : List Effect) → s.outs ≡ a → s.halting ≡ b → Good a → Good b → Both s
    both s a b outs halting good too = (subst Good (sym outs) good, subst Good (sym halting) too)

    by : (s : Step) → Shape hd n i s → Both s
    by s (IsRefusal c is same) = subst Both (sym same) (refl, refl)
    by s (IsNothing other outs halting after) = both s [] [] outs halting refl refl
    by s (IsPlain other up all same live) = let good = still_good s.outs all in (good, subst Good (sym same) good)
    by s (IsGot k from m o is up all outs halting live) =
        let good = still_good o all in both s (Say (body.Got k) ∷ o) (Say (body.Got k) ∷ o) outs halting good good
    by s (IsVoid k from m o is up may all outs halting after) =
        let good = still_good o all in
        both s (o ++ Say (body.Void k) ∷ []) (Say (body.Got k) ∷ o) outs halting
        (all_both says_no_stop o (Say (body.Void k) ∷ []) good refl) good
    by s (IsUnread k from m is why outs halting after) =
        both s (Say (body.Void k) ∷ []) (Say (body.Got k) ∷ []) outs halting refl refl
    by s (IsRestart inc o is down same all outs halting live) =
        let good = subst Good (sym outs) (still_good o all) in (good, subst Good (sym halting) good)
    by s (IsCrash is up outs halting live) = let no_way : true ≡ false = ap is_crash (sym is) ∙ isnt in cc

-- each of the two by itself
weaker : (some : Effect → Bool) → ((b : Body) → is_no_stop b ≡ true → some (Say b) ≡ true) →
    ((to : ℕ) (m : Message) → some (Send to m) ≡ true) → ((w : Work) → some (Do w) ≡ true) → (es : List Effect) → Good es → AreAll some es
weaker some say send works [] all = refl
weaker some say send works (Say b ∷ es) all = let own = and_parts (is_no_stop b) (list_all says_no_stop es) all in
    λ i. say b own.0 i && weaker some say send works es own.1 i
weaker some say send works (Send to m ∷ es) all = λ i. send to m i && weaker some say send works es all i
weaker some say send works (Do w ∷ es) all = λ i. works w i && weaker some say send works es all i

pub step_both : (hd : Header) (n : Node) (i : Input) → is_crash i ≡ false →
    AreAll says_no_halt (step.step hd n i).outs × AreAll says_no_halt (step.step hd n i).halting
step_both hd n i isnt =
    let good = step_good hd n i isnt in
    let halt = weaker says_no_halt (λ b is. (and_parts (is_no_halt b) (is_no_arm b) is).0) (λ to m. refl) (λ w. refl) in
    (halt (step.step hd n i).outs good.0, halt (step.step hd n i).halting good.1)

-- ---- a crash

abbrev OfItself : ℕ → Step → Type 0
OfItself k s = AreAll (says_own_halt k) s.outs × AreAll (says_own_halt k) s.halting

pub crash_own : (hd : Header) (n : Node) → OfItself n.number (step.step hd n Crash)
crash_own hd n = by (refusal hd Crash n)
  where
    said : AreAll (says_own_halt n.number) (Say (body.Halted n.number) ∷ [])
    said = let same : (n.number == n.number) ≡ true = grind arith in λ i. same i && true

    live : (o : Option Parts) → OfItself n.number (step_of hd Crash n o)
    live None = (refl, refl)
    live (Some t) = (said, said)

    by : (r : Option ℕ) → OfItself n.number (step_unless hd Crash n r)
    by (Some c) = (refl, refl)
    by None = live n.live

-- ---- arms

pub step_unarmed : (hd : Header) (n : Node) (i : Input) →
    AreAll says_no_arm (step.step hd n i).outs × AreAll says_no_arm (step.step hd n i).halting
step_unarmed hd n i = by i (is_crash i) refl
  where
    Unarmed : Step → Type 0
    Unarmed s = AreAll says_no_arm s.outs × AreAll says_no_arm s.halting

    live : (o : Option Parts) → Unarmed (step_of hd Crash n o)
    live None = (refl, refl)
    live (Some t) = (refl, refl)

    crash : (r : Option ℕ) → Unarmed (step_unless hd Crash n r)
    crash (Some c) = (refl, refl)
    crash None = live n.live

    safe : (j : Input) → is_crash j ≡ false → Unarmed (step.step hd n j)
    safe j isnt =
        let good = step_good hd n j isnt in
        let none = weaker says_no_arm (λ b is. (and_parts (is_no_halt b) (is_no_arm b) is).1) (λ to m. refl) (λ w. refl) in
        (none (step.step hd n j).outs good.0, none (step.step hd n j).halting good.1)

    by : (j : Input) (b : Bool) → is_crash j ≡ b → Unarmed (step.step hd n j)
    by j false isnt = safe j isnt
    by Crash true is = crash (refusal hd Crash n)
    by (Begin l k p) true is = absurd (cc is)
    by (Call l x o) true is = absurd (cc is)
    by (Include l x s) true is = absurd (cc is)
    by (Commit l) true is = absurd (cc is)
    by (Abort l) true is = absurd (cc is)
    by (GiveUp l) true is = absurd (cc is)
    by (Frame k from m) true is = absurd (cc is)
    by Tick true is = absurd (cc is)
    by Restart true is = absurd (cc is)
    by (Show x) true is = absurd (cc is)
