-- The calls that a program has heard are the surviving calls of its top.
use Rattle.std.proofs.Common.{◌≡◌, ◌∙◌, ℕ, ◌+◌, List, [], ◌∷◌, map, refl, ap, sym, subst, true, false, Bool, Option, Some, None, cond, ◌&&◌}
use Rattle.std.proofs.Common.{◌||◌, ◌==◌, eqb-true, true≢false}
use Rattle.std.specs.Prelude.{filter}
use Rattle.std.specs.List.{AllByRecursion, cons_option, filter_map, list_all, list_any}
use Rattle.std.specs.Option.{option_map}
use Rattle.arj_base.specs.declared.uid.Uid.{Uid}
use Rattle.arj_base.specs.Uid.{uid_eq}
use Rattle.arj_journal.specs.declared.body.Kind.TheVariants as kind
use Rattle.arj_journal.specs.declared.body.Line.{Line}
use Rattle.arj_model.specs.Actions.{Act, Placed, acts, chain_in, committed, has_end, is_committed, recovered, top_in}
use Rattle.arj_model.specs.Calls.{Call, Said, call_of, committed_calls, committings, kept_in, said}
use Rattle.arj_model.specs.Refusals.{was_called}
use Rattle.arj_model.specs.Calls as calls
use Rattle.arj_progrun.specs.Client.{Client}
use Rattle.arj_progrun.specs.declared.phase.Phase.TheVariants as phase
use Rattle.arj_law_programs.proofs.Driving.{AllHold}
use Rattle.arj_law_programs.proofs.Hearing.{holds_so}
use Rattle.arj_law_programs.proofs.Keeping.{counts, is_top, keeps, kept, or_false, told_at, top_there}
use Rattle.arj_law_programs.proofs.Later.{IsEnded, Stand, count}
use Rattle.arj_law_programs.proofs.Acts.{In, found_in, same_act}
use Rattle.arj_law_programs.proofs.Tracking.{Asks, Holds, IsOpen, Tracks, end_in, mark_of}
use Rattle.arj_law_programs.proofs.Views.{view}
use Rattle.arj_law_programs.specs.Counts.{CallsAreThose, CallsAreTops, Told, told_of}

module _ (e : List (Placed ℕ)) (f : List (Placed Uid)) (t : ℕ) (done : has_end e t ≡ true) where
  abbrev ends : Act → Bool
  ends a = has_end e a.id

  same_chain : (p : List Act) → list_all (counts e []) p ≡ list_all (λ (a : Act). has_end e a.id) p
  same_chain [] = refl
  same_chain (a ∷ p) = λ i. or_false (has_end e a.id) i && same_chain p i

  -- one call
  one : (s : Placed Said) (o : Option Act) → (cs : List Call) →
      map told_of (filter (λ (c : Call). c.top == t) (cons_option (kept_in e f s o) cs))
      ≡ cond (is_top t o && list_all (counts e []) (chain_in s.it.path)) (told_at s ∷ map told_of (filter (λ (c : Call). c.top == t) cs))
      (map told_of (filter (λ (c : Call). c.top == t) cs))
  one s None cs = refl
  one s (Some a) cs = by (a.id == t) refl (list_all (λ (x : Act). has_end e x.id) (chain_in s.it.path)) (same_chain (chain_in s.it.path))
    where
      rest : List Told
      rest = map told_of (filter (λ (c : Call). c.top == t) cs)

      committed_top : (a.id == t) ≡ true → is_committed e f a ≡ true
      committed_top is = λ i. (ap (has_end e) (eqb-true a.id t is) ∙ done) i || list_any (λ (u : Placed Uid). uid_eq u.it a.uid) f

      other : (a.id == t) ≡ false → (b : Bool) →
          map told_of (filter (λ (c : Call). c.top == t) (cons_option (cond b (Some (call_of s a)) None) cs)) ≡ rest
      other is true = λ i. map told_of (cond (is i) (call_of s a ∷ filter (λ (c : Call). c.top == t) cs) (filter (λ
          (c : Call). c.top == t) cs))
      other is false = refl

      by : (b : Bool) → (a.id == t) ≡ b → (d : Bool) → list_all (counts e []) (chain_in s.it.path) ≡ d →
          map told_of (filter (λ (c : Call). c.top == t) (cons_option (cond (d && is_committed e f a) (Some (call_of s a)) None) cs))
          ≡ cond ((a.id == t) && list_all (counts e []) (chain_in s.it.path)) (told_at s ∷ rest) rest
      by false is d same =
          other is (d && is_committed e f a) ∙ (λ i. cond (sym is i && list_all (counts e []) (chain_in s.it.path)) (told_at s ∷ rest) rest)
      by true is true same =
          (λ i. map told_of (filter (λ (c : Call). c.top == t) (cons_option (cond (committed_top is i) (Some (call_of s a)) None) cs)))
          ∙ (λ i. map told_of (cond (is i) (call_of s a ∷ filter (λ (c : Call). c.top == t) cs) (filter (λ (c : Call). c.top == t) cs)))
          ∙ (λ i. cond (sym is i && sym same i) (told_at s ∷ rest) rest)
      by true is false same = λ i. cond (sym is i && sym same i) (told_at s ∷ rest) rest

  pub calls_are_kept : (ss : List (Placed Said)) →
      map told_of (filter (λ (c : Call). c.top == t) (filter_map (calls.kept e f) ss)) ≡ kept e [] t ss
  calls_are_kept [] = refl
  calls_are_kept (s ∷ ss) =
      let ih = calls_are_kept ss in
      one s (top_in s.it.path) (filter_map (calls.kept e f) ss)
      ∙ (λ i. cond (keeps e [] t s.it.path) (told_at s ∷ ih i) (ih i)) ∙ outside (keeps e [] t s.it.path)
    where
      outside : (b : Bool) → cond b (told_at s ∷ kept e [] t ss) (kept e [] t ss)
          ≡ map told_at (cond b (s ∷ filter (λ (r : Placed Said). keeps e [] t r.it.path) ss) (filter (λ
          (r : Placed Said). keeps e [] t r.it.path) ss))
      outside true = refl
      outside false = refl

-- What stands of a program that has committed: its calls are its top's, whose commit was called.
pub record Done (lines : List Line) (c : Client) : Type 0 where
  pub tops : CallsAreTops lines c
  pub called : was_called (committings lines) tops.id ≡ true

-- a top that is committed was called
top_called : (lines : List Line) → Stand lines → (a : Act) → In a (acts lines) → a.kind ≡ kind.Top → has_end (committed lines) a.id ≡ true →
    was_called (committings lines) a.id ≡ true
top_called lines st a there top holds = by (committed lines) st.ended holds
  where
    by : (es : List (Placed ℕ)) → AllByRecursion (λ (e : Placed ℕ). IsEnded (acts lines) (committings lines) e.it) es →
        has_end es a.id ≡ true →
        was_called (committings lines) a.id ≡ true
    by [] all never = absurd (true≢false (sym never))
    by (e ∷ es) all yes_it = at (e.it == a.id) refl yes_it (λ more. by es all.1 more) all.0
      where
        at : (b : Bool) → (e.it == a.id) ≡ b → (b || has_end es a.id) ≡ true → (has_end es a.id ≡ true →
            was_called (committings lines) a.id ≡ true) →
            IsEnded (acts lines) (committings lines) e.it → was_called (committings lines) a.id ≡ true
        at true same more ih (x, in_it, is, was) =
            let number : e.it ≡ a.id = eqb-true e.it a.id same in
            let one : x ≡ a = same_act (acts lines) (let s = st.sound in s.numbered) x a in_it there (is ∙ number) in
            ap (was_called (committings lines)) (sym number) ∙ was (ap (λ (y : Act). y.kind) one ∙ top)
        at false same more ih d = ih more

-- a program that has committed
pub calls_are_tops : (lines : List Line) (asks : Asks) (c : Client) → Stand lines → Holds (view lines) asks (count lines) c →
    c.phase ≡ phase.Committed → Done lines c
calls_are_tops lines asks c st h is = by (holds_so (view lines) asks (count lines) c phase.Committed is h)
  where
    by : Tracks (view lines) asks (count lines) phase.Committed c.number c.asked (mark_of c.top) (map mark_of c.blocks) → Done lines c
    by t = at (subst (IsOpen (view lines) (mark_of c.top)) (let d = t.done in d.0) t.opens)
      where
        at : IsOpen (view lines) (mark_of c.top) [] → Done lines c
        at (top, (a ∷ below), op) = absurd op.stack
        at (top, [], op) =
            let in_acts = top_there (acts lines) top (mark_of c.top) [] [] op.stack in
            let found = ap (option_map (λ (a : Act). a.id)) in_acts in
            let done : has_end (committed lines) top.id ≡ true = sym (ap (end_in (committed lines)) found) ∙ (let d = t.done in d.1) in
            record {
              tops = record {
                id = top.id;
                there = found;
                done = done;
                calls = calls_are_kept (committed lines) (recovered lines) top.id done (said lines) ∙ op.live;
              };
              called = top_called lines st top (found_in (acts lines) (let z = c.top in z.label) top in_acts).0 op.kind done;
            }

pub all_calls : (lines : List Line) (asks : Asks) (k : ℕ) (cs : List Client) → Stand lines → AllHold (view lines) asks (count lines) k cs →
    AllByRecursion (λ (c : Client). c.phase ≡ phase.Committed → Done lines c) cs
all_calls lines asks k [] st all = tt
all_calls lines asks k (c ∷ cs) st all = (calls_are_tops lines asks c st all.1, all_calls lines asks (k + 1) cs st all.2)

pub all_those : (lines : List Line) (cs : List Client) → AllByRecursion (λ (c : Client). c.phase ≡ phase.Committed → Done lines c) cs →
    AllByRecursion (CallsAreThose lines) cs
all_those lines [] all = tt
all_those lines (c ∷ cs) all = ((λ is. let d = all.0 is in d.tops), all_those lines cs all.1)
