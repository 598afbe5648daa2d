-- The calls of a readable journal can be run.
use Rattle.std.proofs.Common.{◌≡◌, ℕ, ◌+◌, List, [], ◌∷◌, ◌++◌, length, Bool, true, false, cond, ◌&&◌, nat_le, Option, Some, None}
use Rattle.std.proofs.Common.{slice_get, refl, sym, ◌∙◌, ap, subst}
use Rattle.std.specs.List.{AllByRecursion, list_all}
use Rattle.std.proofs.lemmas.List.{append_assoc, length_push}
use Rattle.arj_base.specs.declared.uid.Uid.{Uid}
use Rattle.arj_journal.specs.declared.body.Body.{Body}
use Rattle.arj_journal.specs.declared.body.Body.TheVariants as body
use Rattle.arj_journal.specs.declared.body.Line.{Line}
use Rattle.arj_journal.specs.declared.header.Header.{Header}
use Rattle.arj_text.specs.declared.label.Label.{Label}
use Rattle.arj_text.specs.Label.{name}
use Rattle.arj_model.specs.Actions.{Act, Placed, acts, acts_after, chain_in, committed, has_end, is_committed, path, put, read, recovered}
use Rattle.arj_model.specs.Actions.{top_in}
use Rattle.arj_model.specs.Calls.{Call, Said, call_of, committed_calls, kept, kept_in, said, said_of}
use Rattle.arj_model.specs.Last.{object_line}
use Rattle.arj_model.proofs.Read.{acts-append}
use Rattle.arj_law.proofs.Common.{all_filter_map}
use Rattle.arj_reading.specs.Readable.{Readable, answer_rule, body_rule, broken_from, broken_or, line_rule, met, named, object_rule}
use Rattle.arj_reading.specs.Readable.{of_begun, or_else, unless}
use Rattle.arj_reading.specs.declared.named.Named.{Named}
use Rattle.arj_reading.specs.declared.rule.Broken.{Broken}
use Rattle.arj_reading.specs.declared.rule.Rule.{Rule}
use Rattle.arj_reading.specs.declared.rule.Rule.TheVariants as rule
use Rattle.arj_replay.specs.Verdict.{HasCall}

-- neither of two rules is broken
pub neither : (a b : Option Rule) → or_else a b ≡ None → (a ≡ None) × (b ≡ None)
neither None b e = (refl, e)
neither (Some r) b e = absurd (cc e)

-- neither the line nor what is behind it breaks a rule
pub none_broken : (at : ℕ) (r : Option Rule) (behind : Option Broken) → broken_or at r behind ≡ None → (r ≡ None) × (behind ≡ None)
none_broken at None behind e = (refl, e)
none_broken at (Some r) behind e = absurd (cc e)

-- the action began, and breaks no rule
pub has_begun : (o : Option Named) (f : Named → Option Rule) → of_begun o f ≡ None → (a : Named) × (o ≡ Some a) × (f a ≡ None)
has_begun None f e = absurd (cc e)
has_begun (Some a) f e = (a, refl, e)

-- what stands behind lines stands at their count
pub at_seam : (before : List Line) (line : Line) (rest : List Line) → slice_get (before ++ line ∷ rest) (length before) ≡ Some line
at_seam [] line rest = refl
at_seam (l ∷ before) line rest = at_seam before line rest

-- an answered call, in the journal that its line stands in
pub record IsSaid (header : Header) (lines : List Line) (s : Placed Said) : Type 0 where
  pub event : ℕ
  pub label : Label
  pub here : slice_get lines s.at ≡ Some (record { event = event; body = body.Ok label s.it.x s.it.op s.it.answer })
  pub has : object_rule (object_line header s.it.x) s.it.op ≡ None

-- what an answered call is, by its line
said_now : (header : Header) (lines : List Line) (before rest : List Line) (line : Line) → slice_get lines (length before) ≡ Some line →
    body_rule header (met before) line.body ≡ None
    → (s : Said) → said_of (acts before) line.body ≡ Some s → IsSaid header lines (record { at = length before; it = s })
said_now header lines before rest line here rule s e = by line.body refl rule e
  where
    by : (b : Body) → line.body ≡ b → body_rule header (met before) b ≡ None → said_of (acts before) b ≡ Some s →
        IsSaid header lines (record { at = length before; it = s })
    by (body.Ok l x op answer) is r g =
        let a = has_begun (named (acts before) (name l)) (λ a. answer_rule header a x op) r in
        let own : Said = record { path = path (acts before) (name l); x = x; op = op; answer = answer } in
        let same : own ≡ s = cc g in
        subst (λ t. IsSaid header lines (record { at = length before; it = t })) same
        (record {
          event = line.event;
          label = l;
          here = here ∙ (λ i. Some (record { event = line.event; body = is i }));
          has = (neither (object_rule (object_line header x) op) _ a.2).0;
        })
    by b is r g = absurd (cc g)

-- one line more at the front of what is left
module _ (header : Header) (lines before : List Line) (line : Line) (rest : List Line) (last : ℕ) (e : lines ≡ before ++ line ∷ rest) (keeps : line_rule header (met before) last line ≡ None) where
  next_said : AllByRecursion (IsSaid header lines) (read said_of (acts (before ++ line ∷ [])) (length (before ++ line ∷ [])) rest) →
      AllByRecursion (IsSaid header lines) (read said_of (acts before) (length before) (line ∷ rest))
  next_said next = by (said_of (acts before) line.body) refl
    where
      there : AllByRecursion (IsSaid header lines) (read said_of (acts_after (acts before) line.body) (length before + 1) rest)
      there = subst (λ us. AllByRecursion (IsSaid header lines) (read said_of us (length before + 1) rest)) (acts-append [] before line) (subst (λ n. AllByRecursion (IsSaid header lines) (read said_of (acts (before ++ line ∷ [])) n rest)) (length_push before line) next)

      here : slice_get lines (length before) ≡ Some line
      here = ap (λ ls. slice_get ls (length before)) e ∙ at_seam before line rest

      by : (o : Option Said) → said_of (acts before) line.body ≡ o →
          AllByRecursion (IsSaid header lines) (put (length before) o (read said_of (acts_after (acts before) line.body) (length before + 1) rest))
      by None is = there
      by (Some s) is =
          (said_now header lines before rest line here (neither (unless (nat_le last line.event) rule.Order) (body_rule header (met before) line.body) rule_is).1 s is, there)
        where
          rule_is : or_else (unless (nat_le last line.event) rule.Order) (body_rule header (met before) line.body) ≡ None
          rule_is = keeps

all_said : (header : Header) (lines before rest : List Line) (last : ℕ) → lines ≡ before ++ rest →
    broken_from header before last rest ≡ None → AllByRecursion (IsSaid header lines) (read said_of (acts before) (length before) rest)
all_said header lines before [] last e b = tt
all_said header lines before (line ∷ rest) last e b =
    let both : (line_rule header (met before) last line ≡ None) × (broken_from header (before ++ line ∷ []) line.event rest ≡ None) =
    none_broken (length before) (line_rule header (met before) last line) (broken_from header (before ++ line ∷ []) line.event rest) b in
    next_said header lines before line rest last e both.0 (all_said header lines (before ++ line ∷ []) rest line.event (e ∙ sym (append_assoc before (line ∷ []) rest)) both.1)

-- a call that is kept is that of its line
kept_call : (header : Header) (lines : List Line) (ends : List (Placed ℕ)) (found : List (Placed Uid)) (s : Placed Said) (c : Call) →
    IsSaid header lines s → kept ends found s ≡ Some c → HasCall header lines c
kept_call header lines ends found s c h e = by (top_in s.it.path) e
  where
    from : (top : Act) (b : Bool) → cond b (Some (call_of s top)) None ≡ Some c → HasCall header lines c
    from top true g =
        let same : call_of s top ≡ c =
        cc g in subst (HasCall header lines) same (record { event = h.event; label = h.label; here = h.here; has = h.has })
    from top false g = absurd (cc g)

    by : (o : Option Act) → kept_in ends found s o ≡ Some c → HasCall header lines c
    by None g = absurd (cc g)
    by (Some top) g = from top (list_all (λ a. has_end ends a.id) (chain_in s.it.path) && is_committed ends found top) g

-- the surviving calls of committed tops
pub calls_have_lines : (header : Header) (lines : List Line) → Readable header lines →
    AllByRecursion (HasCall header lines) (committed_calls lines)
calls_have_lines header lines r =
    all_filter_map (IsSaid header lines) (HasCall header lines) (kept (committed lines) (recovered lines)) (λ s c h e. kept_call header lines (committed lines) (recovered lines) s c h e) (said lines)
    (all_said header lines [] lines 0 refl r)
