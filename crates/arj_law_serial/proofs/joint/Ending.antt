-- Commits that end without a record in a step of the disk machine: of tops that may be decided by it, and that wrote nothing.
use Rattle.arj_law_parts.proofs.Words
use Words.{◌≡◌, ◌⊎◌, ◌==◌, ℕ, List, [], ◌∷◌, Bool, true, false, cond, Option, Some, None, refl, sym, ◌∙◌, ap, subst, inl, inr, ⊎_elim}
use Words.{eqb-true, Ask, Asked, Binding, BoundReply, Head, Message, Uid, asks, Reply, answers, top_of, Confirming, Preparing, Voting}
use Words.{Calling, Committing, Doing, Idle, Now, doing_of, Disk, Intent, Naming, bind, Parts, uid_number, number_tells}
use Words.list
use Words.ask
use Rattle.arj_law_serial.proofs.Terms
use Terms.{Allowed, Effect, Follows, Whole, World, only_decides, Office, Plan, decided, decided_in, never, or_cases, put_cases, test_is}
use Terms.{effect_keeps, Along, effects_are_later, or_which, Answering, Change, Changes, Deciding, Quietly, change_by, are_recorded}
use Terms.Effects
use Rattle.arj_law_disk.specs.machine.{Effects.after, Effects.run, Guards.AreOnlyOf, Guards.is_only_of}
use Rattle.arj_law_disk_view.proofs.names.BareEnds.{bare_wrote, begun_bare}
use Rattle.arj_law_disk_view.specs.names.Handlers.{answer_change, ask_change, asked_change, bind_change, doing_change, now_change}
use Rattle.arj_law_disk_view.specs.names.Handlers.{reply_change}
use Rattle.arj_law_serial.proofs.joint.Recording.{IsConfirming}

-- ---- the disk machine

-- Whoever's commit ended without a record had ended so, or is one of these and wrote nothing.
abbrev pub Ends : (ℕ → Bool) → World → World → Type 0
Ends g W V = (t : ℕ) → V.disk.bare t ≡ true → (W.disk.bare t ≡ true) ⊎ ((g t ≡ true) × ((let p = V.disk.plan t in p.writes) ≡ None))

-- whoever is decided was so, or is one of these
abbrev pub NewlyDecides : (ℕ → Bool) → World → World → Type 0
NewlyDecides g W V = (t : ℕ) → decided V.disk t ≡ true → (decided W.disk t ≡ true) ⊎ (g t ≡ true)

module _ (g : ℕ → Bool) where
  effect_ends : (W : World) (e : Effect) → is_only_of (only_decides g) e ≡ true → Allowed W e → Whole W → Ends g W (after W e)
  effect_ends W (Effects.EndBare z) only can whole t b = put_cases (λ c. c ≡ true →
      (W.disk.bare t ≡ true) ⊎ ((g t ≡ true) × ((let p = W.disk.plan t in p.writes) ≡ None))) z true W.disk.bare t
      (λ same c. inr (ap g same ∙ only, ap (λ k. let p = W.disk.plan k in p.writes) same ∙ bare_wrote W z whole can)) (λ other c. inl c) b
  effect_ends W (Effects.Begin z p) only can whole t b = absurd (never only refl)
  effect_ends W (Effects.Take z s) only can whole t b = inl b
  effect_ends W (Effects.Seal z) only can whole t b = inl b
  effect_ends W (Effects.Intend z nodes) only can whole t b = inl b
  effect_ends W (Effects.Decide z) only can whole t b = inl b
  effect_ends W (Effects.Remove z nodes) only can whole t b = inl b
  effect_ends W (Effects.Halt z) only can whole t b = inl b
  effect_ends W (Effects.Keep z s) only can whole t b = inl b
  effect_ends W (Effects.Move s o) only can whole t b = inl b
  effect_ends W (Effects.Finish s o) only can whole t b = inl b
  effect_ends W (Effects.Drop s o) only can whole t b = inl b
  effect_ends W (Effects.Agree z) only can whole t b = inl b
  effect_ends W (Effects.Pass z) only can whole t b = inl b
  effect_ends W (Effects.Enter z) only can whole t b = inl b
  effect_ends W (Effects.MoveEntry o) only can whole t b = inl b
  effect_ends W (Effects.FinishEntry o) only can whole t b = inl b
  effect_ends W (Effects.DropEntry o) only can whole t b = inl b
  effect_ends W (Effects.Forget r o) only can whole t b = inl b
  effect_ends W (Effects.Send m) only can whole t b = inl b

  all_end : (W : World) (es : List Effect) → AreOnlyOf (only_decides g) es → Follows W es → Whole W → Ends g W (run W es)
  all_end W [] only can whole t b = inl b
  all_end W (e ∷ es) only can whole t b =
      let then = effect_keeps W e can.0 whole in
      ⊎_elim
      (λ (here : (after W e).disk.bare t ≡ true). ⊎_elim
      (λ (old : W.disk.bare t ≡ true). inl old)
      (λ (new : (g t ≡ true) × ((let p = (after W e).disk.plan t in p.writes) ≡ None)). inr (
        new.0,
        (let l = effects_are_later (after W e) es can.1 then in ap (λ (p : Plan). p.writes) (l.plan t (begun_bare t (after W e) then here)))
            ∙ new.1,
      ))
      (effect_ends W e only.0 can.0 whole t here))
      (λ (new : (g t ≡ true) × ((let p = (run W (e ∷ es)).disk.plan t in p.writes) ≡ None)). inr new)
      (all_end (after W e) es only.1 can.1 then t b)

  pub ends_along : (W V : World) → Whole W → Along (record { from = W; noted = only_decides g }) V → Ends g W V
  ends_along W V whole a = subst (Ends g W) a.here (all_end W a.effects a.only a.allowed whole)

  effect_decides : (W : World) (e : Effect) → is_only_of (only_decides g) e ≡ true → NewlyDecides g W (after W e)
  effect_decides W (Effects.Decide z) only t d = ⊎_elim (λ (same : (z == t) ≡ true). inr (ap g (sym (test_is z t same)) ∙ only))
      (λ (old : decided W.disk t ≡ true). inl old) (or_cases (z == t) (decided W.disk t) d)
  effect_decides W (Effects.EndBare z) only t d = inl d
  effect_decides W (Effects.Begin z p) only t d = inl d
  effect_decides W (Effects.Take z s) only t d = inl d
  effect_decides W (Effects.Seal z) only t d = inl d
  effect_decides W (Effects.Intend z nodes) only t d = inl d
  effect_decides W (Effects.Remove z nodes) only t d = inl d
  effect_decides W (Effects.Halt z) only t d = inl d
  effect_decides W (Effects.Keep z s) only t d = inl d
  effect_decides W (Effects.Move s o) only t d = inl d
  effect_decides W (Effects.Finish s o) only t d = inl d
  effect_decides W (Effects.Drop s o) only t d = inl d
  effect_decides W (Effects.Agree z) only t d = inl d
  effect_decides W (Effects.Pass z) only t d = inl d
  effect_decides W (Effects.Enter z) only t d = inl d
  effect_decides W (Effects.MoveEntry o) only t d = inl d
  effect_decides W (Effects.FinishEntry o) only t d = inl d
  effect_decides W (Effects.DropEntry o) only t d = inl d
  effect_decides W (Effects.Forget r o) only t d = inl d
  effect_decides W (Effects.Send m) only t d = inl d

  all_decide : (W : World) (es : List Effect) → AreOnlyOf (only_decides g) es → NewlyDecides g W (run W es)
  all_decide W [] only t d = inl d
  all_decide W (e ∷ es) only t d = ⊎_elim (λ (here : decided (after W e).disk t ≡ true). effect_decides W e only.0 t here)
      (λ (new : g t ≡ true). inr new) (all_decide (after W e) es only.1 t d)

  pub decides_along : (W V : World) → Along (record { from = W; noted = only_decides g }) V → NewlyDecides g W V
  decides_along W V a = subst (NewlyDecides g W) a.here (all_decide W a.effects a.only)

-- ---- a step

-- whom a step may decide
abbrev pub ends_of : Change → ℕ → Bool
ends_of Quietly t = false
ends_of (Answering z r) t = false
ends_of (Deciding z keeps) t = t == z

pub ends_by : (o : Change) (A B : Office) → Whole A.world → Changes o A B → Ends (ends_of o) A.world B.world
ends_by Quietly A B whole c t b = inl (c.bare t b)
ends_by (Answering z r) A B whole c t b = inl (let o = c.0 in o.bare t b)
ends_by (Deciding z keeps) A B whole c t b = ends_along (λ y. y == z) A.world B.world whole c.along t b

pub decides_by : (o : Change) (A B : Office) → Changes o A B → NewlyDecides (ends_of o) A.world B.world
decides_by Quietly A B c t d = inl (ap (λ ds. decided_in ds t) (sym c.tops) ∙ d)
decides_by (Answering z r) A B c t d = inl (ap (λ ds. decided_in ds t) (sym (let o = c.0 in o.tops)) ∙ d)
decides_by (Deciding z keeps) A B c t d = decides_along (λ y. y == z) A.world B.world c.along t d

-- by a message it is one whose commit waits for naming
module _ (x : ℕ) (d : Disk) (t : Parts) (u : Uid) where
  answer_ends : (y : ℕ) (w : Uid) (o : Option BoundReply) → ends_of (answer_change x y w o) (uid_number u) ≡ false
  answer_ends y w None = refl
  answer_ends y w (Some r) = by (y == x)
    where
      by : (b : Bool) → ends_of (cond b (Answering (uid_number w) r) Quietly) (uid_number u) ≡ false
      by true = refl
      by false = refl

  bind_ends : (y : ℕ) (include : Bool) (avoid : Binding) (h : Head) (o : Option Naming) →
      ends_of (bind_change x y include avoid h d o) (uid_number u) ≡ false
  bind_ends y include avoid h None = refl
  bind_ends y include avoid h (Some n) = answer_ends y (top_of h.path) (let s = bind h.path y include avoid d.names n in s.reply)

  ask_ends : (h : Head) (a : Ask) → ends_of (ask_change x d t h a) (uid_number u) ≡ false
  ask_ends h (ask.Bind y include avoid) = bind_ends y include avoid h t.naming
  ask_ends h (ask.Load y) = refl
  ask_ends h (ask.Activate b st) = refl
  ask_ends h (ask.Record y b i g) = refl
  ask_ends h (ask.Invoke y b i ends op) = refl
  ask_ends h (ask.Vote i ties ends) = refl
  ask_ends h (ask.Prepare states) = refl
  ask_ends h (ask.Confirm grants excluded included) = refl

  module _ (w : Uid) (q : Doing) (works : doing_of w t.coord ≡ Some q) where
    now_ends : (n : Now) → q.now ≡ n → ends_of (now_change x w t.coord n) (uid_number u) ≡ true → IsConfirming t.coord u
    now_ends (Committing (Confirming p)) now is = subst (IsConfirming t.coord)
        (sym (number_tells u w (eqb-true (uid_number u) (uid_number w) is))) (record { doing = q; plan = p; works = works; now = now })
    now_ends (Committing (Voting p left)) now is = absurd (never is refl)
    now_ends (Committing (Preparing p left)) now is = absurd (never is refl)
    now_ends (Calling s) now is = absurd (never is refl)
    now_ends Idle now is = absurd (never is refl)

  doing_ends : (w : Uid) (o : Option Doing) → doing_of w t.coord ≡ o → ends_of (doing_change x w t.coord o) (uid_number u) ≡ true →
      IsConfirming t.coord u
  doing_ends w None works is = absurd (never is refl)
  doing_ends w (Some q) works is = now_ends w q works q.now refl is

  reply_ends : (o : Option (Asked × Reply)) → ends_of (reply_change x t.coord o) (uid_number u) ≡ true → IsConfirming t.coord u
  reply_ends None is = absurd (never is refl)
  reply_ends (Some a) is = let q = a.0 in doing_ends q.act (doing_of q.act t.coord) refl is

  asked_ends : (m : Message) (o : Option (Head × Ask)) → ends_of (asked_change x d t m o) (uid_number u) ≡ true → IsConfirming t.coord u
  asked_ends m None is = reply_ends (answers m) is
  asked_ends m (Some a) is = absurd (never is (ask_ends a.0 a.1))

  pub message_ends : (m : Message) → ends_of (change_by x d t m) (uid_number u) ≡ true → IsConfirming t.coord u
  message_ends m is = asked_ends m (asks m) is

-- by a restart it is one with a record
pub record_of : (u : Uid) (intents : List (Uid × Intent)) → are_recorded intents (uid_number u) ≡ true →
    (i : Intent) × list.In {X = Uid × Intent} (u, i) intents
record_of u [] is = absurd (never is refl)
record_of u (e ∷ es) is = ⊎_elim
    (λ (here : (uid_number e.0 == uid_number u) ≡ true).
    (e.1, inl (let same = number_tells e.0 u (eqb-true (uid_number e.0) (uid_number u) here) in λ i. (same i, e.1))))
    (λ (there : are_recorded es (uid_number u) ≡ true). let r = record_of u es there in (r.0, inr r.1))
    (or_which (uid_number e.0 == uid_number u) (are_recorded es (uid_number u)) is)
