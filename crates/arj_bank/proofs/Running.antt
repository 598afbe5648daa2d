-- One event more of a run.
use Rattle.std.proofs.Common.{◌≡◌, inl, inr, ℕ, ◌+◌, ◌≤◌, ◌<◌, List, [], ◌∷◌, ◌++◌, length, length-append, append_assoc, true, false, Some}
use Rattle.std.proofs.Common.{map, refl, sym, ◌∙◌, ap, subst, arith}
use Rattle.std.specs.List.{AllByRecursion}
use Rattle.std.proofs.lemmas.List.{append-nil, length-map}
use Rattle.arj_bank.specs.Bank.{AtLimit, EndsAtLimit, Left, RanBank, RanFront, RanWhole, left}
use Rattle.arj_bank.specs.Underway.{Moment, Underway}
use Rattle.arj_gen.specs.Bank.{bank_header, event_lines}
use Rattle.arj_journal.specs.ScriptForm.{EventInForm}
use Rattle.arj_journal.specs.ScriptText.{event_text}
use Rattle.arj_journal.specs.declared.body.Body.TheVariants as body
use Rattle.arj_journal.specs.declared.body.Line.{Line}
use Rattle.arj_journal.specs.declared.body.Which.TheVariants as which
use Rattle.arj_journal.specs.declared.event.Event.{Event}
use Rattle.arj_journal.specs.declared.header.Header.{Header}
use Rattle.arj_loop.specs.Limits.{EndsAtFrames}
use Rattle.arj_loop.specs.declared.limits.TheConstants.{MOST_EVENTS}
use Rattle.arj_loop.specs.declared.machine.Machine.{Ghosts}
use Rattle.arj_nodes.specs.AllNodes.{task}

-- what a call makes of every run so far, where it runs these events more
abbrev pub Runs : {D M : Type 0} → Ghosts M D → Moment D M → Moment D M → List Event → Type 0
Runs {D} m old new more =
    (first : List D) (header : Header) (events : List Event) → m.ran first header events old.rack old.journal old.machine →
    m.ran first header (events ++ more) new.rack new.journal new.machine

pub none_left : {A : Type 0} (xs : List A) → length xs ≡ 0 → xs ≡ []
none_left [] none = refl
none_left (x ∷ xs) none = absurd (omega (arith, none))

module _ {D M : Type 0} (m : Ghosts M D) where
  pub first_moment : (given : List Event) (old : Moment D M) → AllByRecursion EventInForm given → m.steps old.machine ≡ 0 →
      m.over old.machine ≡ false → Underway m given given old old
  first_moment given old form steps going = record {
    done = [];
    cut = refl;
    form = form;
    ran = λ first header ran. ran;
    steps = steps;
    going = going;
  }

  -- there is room for one more
  pub has_room : (given : List Event) (e : Event) (rest : List Event) (old now : Moment D M) → Underway m given (e ∷ rest) old now →
      length given ≤ MOST_EVENTS → m.steps now.machine < MOST_EVENTS
  has_room given e rest old now u few = omega (arith, u.steps, ap length u.cut, length-append u.done (e ∷ rest), few)

  -- some run has come so far
  pub runs_now : (given rest : List Event) (old now : Moment D M) → Underway m given rest old now →
      (first : List D) × (header : Header) × m.ran first header [] old.rack old.journal old.machine
      → (first : List D) × (header : Header) × (events : List Event) × m.ran first header events now.rack now.journal now.machine
  runs_now given rest old now u r = (r.0, r.1, u.done, u.ran r.0 r.1 r.2)

  -- memory was wanting, in the event or behind it
  pub wants_more : (given : List Event) (e : Event) (rest : List Event) (old now : Moment D M) (rack : List D) →
      Underway m given (e ∷ rest) old now
      → ((first : List D) (header : Header) (events : List Event) → m.ran first header events now.rack now.journal now.machine →
      m.moved header (e ∷ []) now.rack rack)
      → (first : List D) (header : Header) → m.ran first header [] old.rack old.journal old.machine →
      RanFront m (task first header given) rack
  wants_more given e rest old now rack u moved first header ran =
      let so_far = u.ran first header ran in record {
        done = u.done;
        rest = e ∷ rest;
        cut = u.cut;
        machine = now.machine;
        mid = now.rack;
        journal = now.journal;
        ran = so_far;
        since = inr (moved first header u.done so_far);
      }

  pub next_moment : (given : List Event) (e : Event) (rest : List Event) (old now next : Moment D M) → Underway m given (e ∷ rest) old now
      → Runs m now next (e ∷ []) → m.steps next.machine ≡ m.steps now.machine + 1 → m.over next.machine ≡ false →
      Underway m given rest old next
  next_moment given e rest old now next u runs steps going = record {
    done = u.done ++ e ∷ [];
    cut = u.cut ∙ sym (append_assoc u.done (e ∷ []) rest);
    form = u.form.1;
    ran = λ first header ran. runs first header u.done (u.ran first header ran);
    steps = omega (arith, steps, u.steps, length-append u.done (e ∷ []));
    going = going;
  }

  -- nothing is left
  pub all_done : (given : List Event) (old now : Moment D M) → (u : Underway m given [] old now) → given ≡ u.done
  all_done given old now u = u.cut ∙ append-nil u.done

  pub ran_whole : (given : List Event) (old now : Moment D M) → Underway m given [] old now → (first : List D) (header : Header) →
      m.ran first header [] old.rack old.journal old.machine
      → RanWhole m (task first header given) (left now.rack now.journal (Some now.machine))
  ran_whole given old now u first header ran = record {
    machine = now.machine;
    machine_is = refl;
    ran = subst (λ events. m.ran first header events now.rack now.journal now.machine) (sym (all_done given old now u)) (u.ran first header ran);
    going = u.going;
  }

  pub all_counted : (given : List Event) (old now : Moment D M) → Underway m given [] old now → m.steps now.machine ≡ length given
  all_counted given old now u = u.steps ∙ ap length (sym (all_done given old now u))

  -- a frame didn't fit
  pub at_frames : (given : List Event) (e : Event) (rest : List Event) (old now next : Moment D M) → Underway m given (e ∷ rest) old now
      → Runs m now next (e ∷ []) → m.over next.machine ≡ true → EndsAtFrames next.journal → (first : List D) (header : Header) →
      m.ran first header [] old.rack old.journal old.machine
      → AtLimit m (task first header given) (left next.rack next.journal (Some next.machine))
  at_frames given e rest old now next u runs over last first header ran = record {
    done = u.done ++ e ∷ [];
    rest = rest;
    cut = u.cut ∙ sym (append_assoc u.done (e ∷ []) rest);
    machine = next.machine;
    machine_is = refl;
    before = next.journal;
    ran = runs first header u.done (u.ran first header ran);
    limit = inl (record { over = over; same = refl; last = last });
  }

  -- a label too many was asked for
  pub at_labels : (given : List Event) (e : Event) (rest : List Event) (old now next : Moment D M) (journal : List Line) →
      Underway m given (e ∷ rest) old now
      → ((first : List D) (header : Header) (events : List Event) → m.ran first header events now.rack now.journal now.machine →
      m.ran first header events next.rack next.journal next.machine × m.is_full header e next.rack next.machine)
      → m.over next.machine ≡ false → journal ≡ next.journal ++ record { event = m.steps next.machine; body = body.Limit which.Labels } ∷ []
      → (first : List D) (header : Header) → m.ran first header [] old.rack old.journal old.machine →
      AtLimit m (task first header given) (left next.rack journal (Some next.machine))
  at_labels given e rest old now next journal u runs going last first header ran =
      let found = runs first header u.done (u.ran first header ran) in record {
        done = u.done;
        rest = e ∷ rest;
        cut = u.cut;
        machine = next.machine;
        machine_is = refl;
        before = next.journal;
        ran = found.0;
        limit = inr (record { going = going; event = e; more = rest; next = refl; full = found.1; last = last });
      }

  -- ---- the bank

  -- a run that begins with the bank's header, on the machine that was made
  pub bank_first : (first rack : List D) (machine : M) (header : Header) (journal : List Line) → header ≡ bank_header → journal ≡ [] →
      m.ran first header [] rack [] machine → m.ran first bank_header [] rack journal machine
  bank_first first rack machine header journal is fresh ran =
      subst (λ h. m.ran first h [] rack journal machine) is (subst (λ j. m.ran first header [] rack j machine) (sym fresh) ran)

  pub bank_ran : (n : ℕ) (first : List D) (events : List Event) (now : Left D M) → map event_text events ≡ event_lines n →
      AllByRecursion EventInForm events → RanWhole m (task first bank_header events) now → RanBank m n first now
  bank_ran n first events now texts form ran = record { events = events; are = record { texts = texts; form = form }; ran = ran }

  pub bank_limit : (n : ℕ) (first : List D) (events : List Event) (now : Left D M) → map event_text events ≡ event_lines n →
      AllByRecursion EventInForm events → AtLimit m (task first bank_header events) now → EndsAtLimit m n first now
  bank_limit n first events now texts form ended = record { events = events; are = record { texts = texts; form = form }; ended = ended }

-- as many events as lines
pub bank_count : (n count : ℕ) (events : List Event) → map event_text events ≡ event_lines n → count ≡ length events →
    count ≡ length (event_lines n)
bank_count n count events texts is = is ∙ (sym (length-map events event_text) ∙ ap length texts)
