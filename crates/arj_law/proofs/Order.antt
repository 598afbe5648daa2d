-- Order and values give the serial run.
use Rattle.arj_law.proofs.Terms
use Terms.{◌≡◌, ◌<◌, ℕ, List, [], Bool, true, false, cond, ◌&&◌, ◌==◌, Option, Some, None, refl, sym, ◌∙◌, ap, subst, list_all, eqb-true}
use Terms.{Uid, Line, Act, Placed, top_in, chain_in, has_end, is_committed, committed, recovered, Call, Said, said, said_of, call_of, kept}
use Terms.{kept_in, committed_calls, tops, Values, Serial, lex, serial_key, serial_less, is_conflict, StandInOrder, InOrder, Answered}
use Rattle.arj_law.proofs.Answers.{book_answers}
use Rattle.arj_law.proofs.Common.{never, Pairwise, pairwise_of, pairwise_both, pairwise_map, pairwise_filter_map, read_rises, lex_same}
use Rattle.arj_law.proofs.Common.{lex_turn}
use Rattle.arj_law.proofs.Moves.{MayPass, arrange_answers}

-- a call that is kept stands at the place of its line
pub kept_at : (ends : List (Placed ℕ)) (found : List (Placed Uid)) (s : Placed Said) (c : Call) → kept ends found s ≡ Some c → c.at ≡ s.at
kept_at ends found s c e = by (top_in s.it.path) e
  where
    from : (top : Act) (b : Bool) → cond b (Some (call_of s top)) None ≡ Some c → c.at ≡ s.at
    from top true g = let same : call_of s top ≡ c = cc in ap (λ d. d.at) (sym same)
    from top false g = absurd (cc g)

    by : (o : Option Act) → kept_in ends found s o ≡ Some c → c.at ≡ s.at
    by None g = absurd (cc g)
    by (Some top) g = from top (list_all (λ a. has_end ends a.id) (chain_in s.it.path) && is_committed ends found top) g

-- surviving calls of committed tops stand by their places
pub rises : (lines : List Line) → Pairwise (λ c d. c.at < d.at) (committed_calls lines)
rises lines =
    pairwise_filter_map (λ s t. s.at < t.at) (λ c d. c.at < d.at) (kept (committed lines) (recovered lines))
    (λ s t c d lt e g. subst (λ n. n < d.at) (sym (kept_at (committed lines) (recovered lines) s c e))
    (subst (λ n. s.at < n) (sym (kept_at (committed lines) (recovered lines) t d g)) lt))
    (said lines) (read_rises said_of [] 0 lines)

-- calls of one top don't pass each other
pub same_top_stays : (lines : List Line) (c d : Call) → (c.top == d.top) ≡ true → serial_less (tops lines) d c ≡ false
same_top_stays lines c d same = (λ i. lex (serial_key (tops lines) (sym (eqb-true c.top d.top same) i)) (serial_key (tops lines) c.top))
    ∙ lex_same (serial_key (tops lines) c.top)

-- where order holds, the serial order moves no call past one that it conflicts with
pub in_order_may_pass : (lines : List Line) (c d : Call) → (c.at < d.at) × StandInOrder lines c d → MayPass (serial_less (tops lines)) c d
in_order_may_pass lines c d p e = by (is_conflict c d) refl (c.top == d.top) refl
  where
    by : (b : Bool) → is_conflict c d ≡ b → (s : Bool) → (c.top == d.top) ≡ s → b ≡ false
    by false conflict s same = refl
    by true conflict true same = never (serial_less (tops lines) d c) e (same_top_stays lines c d same)
    by true conflict false same = never (serial_less (tops lines) d c) e
        (lex_turn (serial_key (tops lines) c.top) (serial_key (tops lines) d.top) (p.1 p.0 same conflict))

pub order_law : (values : Values) (lines : List Line) → InOrder lines → Answered values lines → Serial values lines
order_law values lines order answered =
    let pairs = pairwise_both (λ c d. c.at < d.at) (StandInOrder lines) (committed_calls lines) (rises lines)
    (pairwise_of (StandInOrder lines) (committed_calls lines) order) in
    arrange_answers values (serial_less (tops lines)) (committed_calls lines)
    (pairwise_map (λ c d. (c.at < d.at) × StandInOrder lines c d) (MayPass (serial_less (tops lines))) (in_order_may_pass lines)
    (committed_calls lines) pairs)
    (book_answers values [] (committed_calls lines) (rises lines) answered)
