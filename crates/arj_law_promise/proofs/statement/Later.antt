-- The start that no format leaves is formed, and others aren't.
use Rattle.arj_law_parts.proofs.Words
use Words.{◌≡◌, ◌<◌, ℕ, true, false, [], ◌∷◌, refl, ap, inl, inr, ⊎_elim, in_from, in_to}
use Words.{arith, ◌∙◌, ◌≤◌, Uid, has}
use Rattle.arj_class.specs.declared.value.Value.TheVariants.{Account}
use Rattle.arj_journal.specs.declared.header.ObjectLine.{ObjectLine}
use Rattle.arj_law_promise.specs.starts.Samples
use Samples.{HasGrown, account, at_listed, begun_again, earlier, last_there, later, later_run, long_register, not_below, old_state}
use Samples.{some_moves, three_nodes}
use Rattle.arj_promise.specs.Runs.{HeaderFits, IsInForm}
use Rattle.arj_promise.specs.Starts.{IsBefore, IsFormed, IsOlder}
use Rattle.arj_base.specs.declared.state.Format.TheVariants as format
use Rattle.arj_base.specs.declared.state.ObjectState.{ObjectState}
use Rattle.arj_protocol.specs.Step.{state_by}

-- ---- the start is formed

older : IsOlder three_nodes later (3, old_state)
older = record {
  line = account;
  there = in_to account (account ∷ []) (inl refl);
  of = refl;
  class = refl;
  form = ((omega arith, omega arith, omega arith), omega arith, (omega arith, omega arith, omega arith), omega arith);
  unlisted = refl;
  was = inr (record {
    below = omega arith;
    other = λ same. let no_way : ◌≡◌ {A = ℕ} 2 4 = ap (λ (u : Uid). u.num) same in omega (arith, no_way);
  });
  past = inr (omega arith);
  bytes = (omega arith, (omega arith, (omega arith, (omega arith, (omega arith, (omega arith, (omega arith, (omega arith, tt))))))));
  restores = (Account 0, refl, omega arith, tt, refl);
}

pub formed : IsFormed three_nodes later
formed = record {
  states = λ x. inr (omega arith);
  entries = λ x. inr (omega arith);
  writers = λ x. ((omega arith, omega arith, omega arith), (omega arith, omega arith, omega arith));
  short = λ x. omega arith;
  brief = λ x. omega arith;
  incs = λ n. omega arith;
  older = (older, tt);
  one = ((record { version = λ u v. refl; writer = λ u w. refl }, tt), tt);
}

-- ---- so is one with the last state where it isn't listed

last_state : IsOlder three_nodes last_there (3, state_by format.Two (record { version = 3; writer = earlier }) account)
last_state = record {
  line = account;
  there = in_to account (account ∷ []) (inl refl);
  of = refl;
  class = refl;
  form = ((omega arith, omega arith, omega arith), omega arith, (omega arith, omega arith, omega arith), omega arith);
  unlisted = refl;
  was = inl refl;
  past = inr (omega arith);
  bytes = (omega arith, (omega arith, (omega arith, (omega arith, (omega arith, (omega arith, (omega arith, (omega arith, tt))))))));
  restores = (Account 5, refl, omega arith, tt, refl);
}

pub last_is_there : IsFormed three_nodes last_there
last_is_there = record {
  states = λ x. inr (omega arith);
  entries = λ x. inr (omega arith);
  writers = λ x. ((omega arith, omega arith, omega arith), (omega arith, omega arith, omega arith));
  short = λ x. omega arith;
  brief = λ x. omega arith;
  incs = λ n. omega arith;
  older = (last_state, tt);
  one = ((record { version = λ u v. refl; writer = λ u w. refl }, tt), tt);
}

-- ---- its run is in form

header : HeaderFits three_nodes
header = record {
  nodes = (omega arith, omega arith);
  objects = (
    (record { number = (omega arith, omega arith); value = omega arith; servers = refl; stores = refl }, tt),
    refl,
  );
}

pub in_form : IsInForm three_nodes (later_run formed some_moves)
in_form = record {
  header = header;
  held = (λ first. tt, tt);
  events = (omega arith, ((refl, omega arith), ((refl, omega arith), (refl, (tt, tt)))));
  few = omega arith;
  stops = ((omega arith, tt), ((omega arith, tt), ((omega arith, tt), ((omega arith, tt), ((omega arith, tt), tt)))));
}

-- ---- a register has grown

pub grown : HasGrown
grown = record {
  formed = formed_so;
  in_form = record {
    header = record {
      nodes = (omega arith, omega arith);
      objects = (
        (record { number = (omega arith, omega arith); value = omega arith; servers = refl; stores = refl }, tt),
        refl,
      );
    };
    held = ((λ first. let no_way : ◌≡◌ {A = ℕ} 3 0 = first in omega (arith, no_way)), tt);
    events = tt;
    few = omega arith;
    stops = tt;
  };
  unwritten = λ ms form. let no_way : 65 ≤ 64 = form.held.0 refl in omega (arith, no_way);
}
  where
    formed_so : IsFormed long_register (record later { older = [] })
    formed_so = record {
      states = λ x. inr (omega arith);
      entries = λ x. inr (omega arith);
      writers = λ x. ((omega arith, omega arith, omega arith), (omega arith, omega arith, omega arith));
      short = λ x. omega arith;
      brief = λ x. omega arith;
      incs = λ n. omega arith;
      older = tt;
      one = tt;
    }

-- ---- starts that aren't

pub not_below_fails : IsFormed three_nodes not_below → ⊥
not_below_fails f = let o = f.older.0 in ⊎_elim
    (λ (same : record old_state { version = 3 } ≡ state_by format.Two (record { version = 3; writer = earlier }) o.line).
    let no_way : ◌≡◌ {A = ℕ} 2 4 = ap (λ (s : ObjectState). let u = s.writer in u.num) same in omega (arith, no_way))
    (λ (before : IsBefore (record old_state { version = 3 }) (record { version = 3; writer = earlier })).
    let no_way : 3 < 3 = before.below in omega (arith, no_way)) o.was

pub at_listed_fails : IsFormed three_nodes at_listed → ⊥
at_listed_fails f = let o = f.older.0 in ⊎_elim (λ same. listed o.line same o.unlisted) (λ none. absurd none)
    (in_from o.line (account ∷ []) o.there)
  where
    listed : (l : ObjectLine) → account ≡ l → has l.stores 2 ≡ false → ⊥
    listed l same un = let no_way : true ≡ false = ap (λ (z : ObjectLine). has z.stores 2) same ∙ un in cc no_way

pub begun_again_fails : IsFormed three_nodes begun_again → ⊥
begun_again_fails f = ⊎_elim
    (λ none. let no_way : ◌≡◌ {A = ℕ} 2 0 = ap (λ (u : Uid). u.inc) none in omega (arith, no_way))
    (λ past. let no_way : 2 < 2 = past in omega (arith, no_way)) (f.states 1)
