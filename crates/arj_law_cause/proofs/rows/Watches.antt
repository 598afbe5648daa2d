-- What is watched: inside of each event the stores of nodes that are up; and in a step of a node all stores.
use Rattle.arj_law_parts.proofs.Words
use Words.{⊤, ◌≡◌, ◌⊎◌, ◌∙◌, ◌++◌, ◌+◌, ◌≤◌, ℕ, true, false, List, [], ◌∷◌, Option, Some, None, sym, ap, subst, inl, inr}
use Words.{⊎_elim}
use Words.{is_some, arith, length, length-append, Line, Uid, Disk, Node, numbered}
use Words.body
use Rattle.std.specs.Prelude.{drop, take}
use Rattle.arj_model.specs.CausePends.{frame_is, halts_preparing, is_crash_at, is_prepare, last_got}
use Rattle.arj_model.specs.Past.{Asked as AskedOf}
use Rattle.arj_law_cause.proofs.rows.Watching.{Watch, fall, fallen}
use Rattle.arj_law_cause.proofs.rows.Stops
use Stops.{are_own, drop_on, frame_more, got_last, own_halt, own_less, own_sent, split_at, stops_asked, stops_home}

-- ---- inside of an event

-- Before the event has a line all nodes matter, and then those that are up.
abbrev pub Matters : List Line → List Line → Node → Type 0
Matters r ls n = (length ls ≤ length r) ⊎ (is_some n.live ≡ true)

-- a node that stops doesn't
pub no_matter : {B : Type 0} (r : List Line) (e : ℕ) (ls : List Line) (k : ℕ) (c : Disk) → length r ≤ length ls →
    Matters r (ls ++ fall e k) (fallen k c) → B
no_matter {B} r e ls k c more m = ⊎_elim {C = B}
    (λ few. let long : length (ls ++ fall e k) ≡ length ls + 1 = length-append ls (fall e k) in absurd (omega (arith, more, few, long)))
    (λ up. let no_way : false ≡ true = up in absurd (cc no_way)) m

abbrev pub in_event : (A : List AskedOf) → Watch A
in_event A = record {
  base = λ r e ls. length r ≤ length ls;
  may = λ ls. ⊤;
  matter = Matters;
  asked = λ k u. ⊤;
  base_more = λ r e ls ms h. let long = length-append ls ms in omega (arith, h, long);
  may_less = λ r e ls ms h m. tt;
  matter_less = λ r ls ms n m. ⊎_elim {C = Matters r ls n} (λ few. let long = length-append ls ms in inl (omega (arith, few, long)))
      (λ up. inr up) m;
  ups = λ r ls n up. inr up;
  anew = λ r ls n same. let long = ap (λ (xs : List Line). length xs) same in inl (omega (arith, long));
  downs = λ r e ls k d live h m. no_matter r e ls k d h m;
  sends = λ r e ls j k to what h m u home. tt;
  selfs = λ k u home. tt;
  put = λ r e ls k c u h may m asked. no_matter r e ls k c h m;
}

-- ---- in a step

-- it is the node from which a Prepare is taken
abbrev pub IsFrom : Option ℕ → ℕ → Type 0
IsFrom None n = ⊥
IsFrom (Some j) n = n ≡ j

-- the lines say that the frame is a Prepare to the node from there
abbrev pub SaysSo : ℕ → Option ℕ → Option ℕ → List Line → Type 0
SaysSo k f None ls = ⊤
SaysSo k None (Some i) ls = ⊥
SaysSo k (Some j) (Some i) ls = frame_is (is_prepare i k) ls j ≡ true

pub says_more : (k : ℕ) (f from : Option ℕ) (ls ms : List Line) → SaysSo k f from ls → SaysSo k f from (ls ++ ms)
says_more k f None ls ms h = tt
says_more k None (Some i) ls ms h = absurd h
says_more k (Some j) (Some i) ls ms h = frame_more (is_prepare i k) j ls ms h

-- lines of the node's step are so without the last ones
pub may_front : (k e n : ℕ) (f : Option ℕ) (ls ms : List Line) → n ≤ length ls → are_own k e f (drop n (ls ++ ms)) ≡ true →
    are_own k e f (drop n ls) ≡ true
may_front k e n f ls ms few m = own_less k e f (drop n ls) ms (sym (ap (are_own k e f) (drop_on n ls ms few)) ∙ m)

-- Node k takes this frame in this event, in which it doesn't crash, and so many lines come before its own. It is asked to prepare something
-- by itself, or from where the Prepare comes.
module _ (A : List AskedOf) (k e n : ℕ) (f from : Option ℕ) (alive : is_crash_at A k e ≡ false) where
  abbrev pub Base : List Line → ℕ → List Line → Type 0
  Base r i ls = (i ≡ e) × ((n ≤ length ls) × SaysSo k f from ls)

  abbrev pub May : List Line → Type 0
  May ls = are_own k e f (drop n ls) ≡ true

  abbrev pub Asks : ℕ → Uid → Type 0
  Asks j u = j ≡ k → (u.node ≡ k) ⊎ IsFrom from u.node

  pub behind : (r : List Line) (i : ℕ) (ls ms : List Line) → Base r i ls → May (ls ++ ms) → are_own k e f (drop n ls ++ ms) ≡ true
  behind r i ls ms h m = sym (ap (λ xs. are_own k e f xs) (drop_on n ls ms h.1.0)) ∙ m

  pub put_so : (r : List Line) (i : ℕ) (ls : List Line) (j : ℕ) (u : Uid) → Base r i ls → May (ls ++ fall i j) → Asks j u →
      halts_preparing A u.node j ls i ≡ true
  put_so r i ls j u h m asked = ⊎_elim {C = halts_preparing A u.node j ls i ≡ true}
      (λ home. stops_home A u.node j ls i not_crash (here ∙ sym home)) (λ its. by f from h.1.1 its (behind r i ls (fall i j) h m))
      (asked here)
    where
      here : j ≡ k
      here = own_halt k e f (drop n ls) i j (behind r i ls (fall i j) h m)

      not_crash : is_crash_at A j i ≡ false
      not_crash = (λ t. is_crash_at A (here t) (h.0 t)) ∙ alive

      by : (g o : Option ℕ) → SaysSo k g o ls → IsFrom o u.node → are_own k e g (drop n ls ++ fall i j) ≡ true →
          halts_preparing A u.node j ls i ≡ true
      by g None says its own = absurd its
      by None (Some x) says its own = absurd says
      by (Some y) (Some x) says its own = stops_asked A u.node j y ls i not_crash
          ((λ t. last_got (h.0 t) None (sym (split_at n ls) t))
          ∙ got_last k e y (take n ls) (drop n ls) i (subst (λ m. are_own k e (Some y) (drop n ls ++ fall i m) ≡ true) here own))
          ((λ t. frame_is (is_prepare (its t) (here t)) ls y) ∙ says)

  abbrev pub in_step : Watch A
  in_step = record {
    base = Base;
    may = May;
    matter = λ r ls m. ⊤;
    asked = Asks;
    base_more = λ r i ls ms h. (
      h.0,
      ((let long = length-append ls ms in let few = h.1.0 in omega (arith, few, long)), says_more k f from ls ms h.1.1),
    );
    may_less = λ r i ls ms h m. may_front k e n f ls ms h.1.0 m;
    matter_less = λ r ls ms m h. tt;
    ups = λ r ls m up. tt;
    anew = λ r ls m same. tt;
    downs = λ r i ls j d live h m. tt;
    sends = λ r i ls j m to what h may u home. λ same. inl (home ∙ own_sent k e f (drop n ls) i j m to what
        (behind r i ls (numbered i (body.Sent j m to what ∷ [])) h may));
    selfs = λ j u home. λ same. inl (home ∙ same);
    put = λ r i ls j c u h may m asked. put_so r i ls j u h may asked;
  }
