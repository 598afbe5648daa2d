-- What the lines of a step are, by its input: those of a node that isn't up, of a frame, of a refusal, of a restart and a crash stand at
-- known places, and all others are still.
use Rattle.arj_law_parts.proofs.Words
use Words.{◌≡◌, ℕ, Bool, true, false, List, [], ◌∷◌, ◌++◌, ◌+◌, map, refl, ap, inl, inr, ◌⊎◌}
use Words.{Option, Some, None, is_some, all_both, again_own, acts_own, tolds_again_own}
use Words.{again_all, Disk, Effect, Say, Do, Look, PutInc, Handled, Void, Took, Parts}
use Words.{handle_ends, last_end, holders, most_rounds}
use Words.{prepared_actions, query_about, ran, taken, whole, with_coord, uid_set, without_number, Node, Input, Step, Begin, Call}
use Words.{GiveUp, Tick, Restart, Crash, Show, acts, frame_step, handled_step, hello_to, naming_at, naming_back, node_did, numbers_to}
use Words.{only_says, parts_in, recovered_records, refusal, restart_outs, step_down, step_of, step_unless, step_up, tick_step}
use Words.{worked, tolds_again, Uid, End, Message, Header}
use Words.input as step
use Words.body
use Words.message
use Rattle.arj_law_parts.proofs.steps.Still.{Still, back_good, coord_good, map_good, outs_of, rounds_good, ran_good, rounds_more}
use Rattle.arj_law_parts.proofs.steps.Still.{says_still}
use Rattle.arj_law_parts.proofs.steps.Still.{show_good, taken_good}
use Rattle.arj_protocol.specs.Step.{Commit, Abort, Frame, Include, is_about_action}

-- nothing is void for a node that is up but what it need not take: bytes that are no message, and messages but of these kinds
abbrev pub may_be_void : Option Message → Bool
may_be_void (Some (message.Told m)) = false
may_be_void (Some (message.Query m)) = false
may_be_void (Some (message.Hello m)) = false
may_be_void _ = true

-- the input delivers a frame
abbrev pub is_frame : Input → Bool
is_frame (Frame k from m) = true
is_frame _ = false

-- A step by its lines. A frame that is void is got where a stop falls into its read, and there is none where the node is down or no
-- message was read.
pub data Shape (hd : Header) (n : Node) (i : Input) (s : Step) : Type 0 where
  IsRefusal : (c : ℕ) → refusal hd i n ≡ Some c → s ≡ only_says n (body.Refused c) → Shape hd n i s
  IsNothing : is_frame i ≡ false → s.outs ≡ [] → s.halting ≡ [] → s.after ≡ n → Shape hd n i s
  IsPlain : is_frame i ≡ false → is_some n.live ≡ true → Still s.outs → s.halting ≡ s.outs → is_some s.after.live ≡ true → Shape hd n i s
  IsGot : (k from : ℕ) (m : Message) (o : List Effect) → i ≡ Frame k from (Some m) → is_some n.live ≡ true → Still o →
      s.outs ≡ Say (body.Got k) ∷ o → s.halting ≡ Say (body.Got k) ∷ o → is_some s.after.live ≡ true → Shape hd n i s
  IsVoid : (k from : ℕ) (m : Message) (o : List Effect) → i ≡ Frame k from (Some m) → is_some n.live ≡ true → may_be_void (Some m) ≡ true →
      Still o → s.outs ≡ o ++ Say (body.Void k) ∷ [] → s.halting ≡ Say (body.Got k) ∷ o → s.after ≡ n → Shape hd n i s
  IsUnread : (k from : ℕ) (m : Option Message) → i ≡ Frame k from m → (is_some n.live ≡ false) ⊎ (m ≡ None) →
      s.outs ≡ Say (body.Void k) ∷ [] → s.halting ≡ Say (body.Got k) ∷ [] → s.after ≡ n → Shape hd n i s
  IsRestart : (inc : ℕ) (o : List Effect) → i ≡ Restart → is_some n.live ≡ false → inc ≡ n.disk.inc + 1 → Still o →
      s.outs ≡ Do Look ∷ Do (PutInc inc) ∷ Say (body.Up n.number inc) ∷ o → s.halting ≡ s.outs → is_some s.after.live ≡ true →
      Shape hd n i s
  IsCrash : i ≡ Crash → is_some n.live ≡ true → s.outs ≡ Say (body.Halted n.number) ∷ [] → s.halting ≡ s.outs → s.after.live ≡ None →
      Shape hd n i s

module _ (hd : Header) (n : Node) where
  -- a node that is up does this, and what its messages to itself lead to
  did_plain : (i : Input) (t : Parts) (outs : List Effect) → is_frame i ≡ false → is_some n.live ≡ true → Still outs → Shape hd n i
      (node_did n [] t outs)
  did_plain i t outs other up all =
      IsPlain other up (rounds_good n.number most_rounds (ran n.number t outs n.disk) (ran_good n.number t outs n.disk all)) refl refl

  acts_plain : (i : Input) (t : Parts) → is_frame i ≡ false → is_some n.live ≡ true → Shape hd n i
      (step.coord_did n t (acts i n.disk.intents t.coord))
  acts_plain i t other up =
      did_plain i (with_coord t (acts i n.disk.intents t.coord).part) (acts i n.disk.intents t.coord).outs other up
      (coord_good (acts i n.disk.intents t.coord).outs (acts_own i n.disk.intents t.coord))

  tick_plain : (t : Parts) → is_some n.live ≡ true → Shape hd n Tick (tick_step n t)
  tick_plain t up =
      let d = again_all t.coord.doings t.coord in
      did_plain Tick (with_coord t d.part) (d.outs ++ tolds_again t.coord.telling ++ map query_about (holders n.disk t)) refl up
      (all_both says_still (d.outs ++ tolds_again t.coord.telling) (map query_about (holders n.disk t))
      (all_both says_still d.outs (tolds_again t.coord.telling) (coord_good d.outs (again_own t.coord.doings t.coord))
      (coord_good (tolds_again t.coord.telling) (tolds_again_own t.coord.telling)))
      (map_good query_about (holders n.disk t) (λ u. refl)))

  -- what is always taken
  told_taken : (t : Parts) (from : ℕ) (m : Message) → may_be_void (Some m) ≡ false → (outs : List Effect) →
      taken n.number n.disk t from m ≡ Void outs → ⊥
  told_taken t from (message.Told m) is outs void = by (last_end m.ends) void
    where
      by : (o : Option (Uid × End)) → handle_ends n.number n.disk t from m.ack m.ends o ≡ Void outs → ⊥
      by None void = cc
      by (Some e) void = cc
  told_taken t from (message.Query m) is outs void = cc
  told_taken t from (message.Hello m) is outs void = cc
  told_taken t from (message.Acked m) is outs void = cc
  told_taken t from (message.Bind m) is outs void = cc
  told_taken t from (message.Bound m) is outs void = cc
  told_taken t from (message.Load m) is outs void = cc
  told_taken t from (message.Loaded m) is outs void = cc
  told_taken t from (message.Activate m) is outs void = cc
  told_taken t from (message.Activated m) is outs void = cc
  told_taken t from (message.RecordMsg m) is outs void = cc
  told_taken t from (message.Recorded m) is outs void = cc
  told_taken t from (message.Invoke m) is outs void = cc
  told_taken t from (message.Invoked m) is outs void = cc
  told_taken t from (message.Vote m) is outs void = cc
  told_taken t from (message.Voted m) is outs void = cc
  told_taken t from (message.Prepare m) is outs void = cc
  told_taken t from (message.Prepared m) is outs void = cc
  told_taken t from (message.Confirm m) is outs void = cc
  told_taken t from (message.Confirmed m) is outs void = cc

  frame_shape : (k from : ℕ) (t : Parts) (m : Option Message) → is_some n.live ≡ true → Shape hd n (Frame k from m)
      (frame_step k from n t m)
  frame_shape k from t None up = IsUnread k from None refl (inr refl) refl refl refl
  frame_shape k from t (Some m) up = by (taken n.number n.disk t from m) refl (taken_good n.number n.disk t from m)
    where
      void : (b : Bool) → may_be_void (Some m) ≡ b → (outs : List Effect) → taken n.number n.disk t from m ≡ Void outs → Still outs →
          Shape hd n (Frame k from (Some m)) (handled_step k n (Void outs))
      void true may outs is all = IsVoid k from m outs refl up may all refl refl refl
      void false may outs is all = absurd (told_taken t from m may outs is)

      by : (v : Handled) → taken n.number n.disk t from m ≡ v → Still (outs_of v) → Shape hd n (Frame k from (Some m)) (handled_step k n v)
      by (Void outs) is all = void (may_be_void (Some m)) refl outs is all
      by (Took u outs) is all = IsGot k from m (whole n.number u outs n.disk).outs refl up
          (rounds_good n.number most_rounds (ran n.number u outs n.disk) (ran_good n.number u outs n.disk all)) refl refl refl

  restart_shape : is_some n.live ≡ false → Shape hd n Restart (step.restart_step hd n)
  restart_shape down =
      IsRestart inc ((ran n.number t behind d).outs ++ more.0) refl down refl
      (all_both says_still (ran n.number t behind d).outs more.0 (ran_good n.number t behind d still) more.2) more.1 refl refl
    where
      inc : ℕ
      inc = n.disk.inc + 1

      t : Parts
      t = parts_in n.number inc n.disk

      d : Disk
      d = worked (PutInc inc) (worked Look n.disk)

      back : List Effect
      back = naming_back (naming_at n.number inc n.disk.names)

      behind : List Effect
      behind = Do Look ∷ back ++ Do Look ∷ recovered_records n.number n.disk.intents ++ tolds_again n.disk.intents
          ++ map query_about (uid_set (prepared_actions n.disk.store ++ prepared_actions n.disk.names))
          ++ map (hello_to n.number inc) (without_number n.number (numbers_to hd.nodes))

      hellos : List Effect
      hellos = map (hello_to n.number inc) (without_number n.number (numbers_to hd.nodes))

      asked : List Effect
      asked = map query_about (uid_set (prepared_actions n.disk.store ++ prepared_actions n.disk.names))

      records : List Effect
      records = Do Look ∷ recovered_records n.number n.disk.intents

      still : Still behind
      still = all_both says_still ((((Do Look ∷ back) ++ records) ++ tolds_again n.disk.intents) ++ asked) hellos
          (all_both says_still (((Do Look ∷ back) ++ records) ++ tolds_again n.disk.intents) asked
          (all_both says_still ((Do Look ∷ back) ++ records) (tolds_again n.disk.intents)
          (all_both says_still (Do Look ∷ back) records (back_good (naming_at n.number inc n.disk.names))
          (map_good _ n.disk.intents (λ e. refl)))
          (coord_good (tolds_again n.disk.intents) (tolds_again_own n.disk.intents)))
          (map_good query_about (uid_set (prepared_actions n.disk.store ++ prepared_actions n.disk.names)) (λ u. refl)))
          (map_good (hello_to n.number inc) (without_number n.number (numbers_to hd.nodes)) (λ m. refl))

      more : (more : List Effect) × ((whole n.number t (restart_outs hd n.number inc n.disk) n.disk).outs
          ≡ (ran n.number t (restart_outs hd n.number inc n.disk) n.disk).outs ++ more) × Still more
      more = rounds_more n.number most_rounds (ran n.number t (restart_outs hd n.number inc n.disk) n.disk)

  up_shape : (t : Parts) (i : Input) → n.live ≡ Some t → Shape hd n i (step_up i n t)
  up_shape t i is = by i
    where
      up : is_some n.live ≡ true
      up = ap (λ o. is_some o) is

      by : (i : Input) → Shape hd n i (step_up i n t)
      by (Frame k from m) = frame_shape k from t m up
      by Tick = tick_plain t up
      by Restart = IsNothing refl refl refl refl
      by Crash = IsCrash refl up refl refl refl
      by (Show x) = IsPlain refl up (show_good n.number x n.disk) refl up
      by (Begin l k p) = acts_plain (Begin l k p) t refl up
      by (Call l x o) = acts_plain (Call l x o) t refl up
      by (Include l x s) = acts_plain (Include l x s) t refl up
      by (Commit l) = acts_plain (Commit l) t refl up
      by (Abort l) = acts_plain (Abort l) t refl up
      by (GiveUp l) = acts_plain (GiveUp l) t refl up

  down_shape : (i : Input) → n.live ≡ None → Shape hd n i (step_down hd i n)
  down_shape i is = by i
    where
      off : is_some n.live ≡ false
      off = ap (λ o. is_some o) is

      by : (i : Input) → Shape hd n i (step_down hd i n)
      by (Frame k from m) = IsUnread k from m refl (inl off) refl refl refl
      by Restart = restart_shape off
      by Tick = IsNothing refl refl refl refl
      by Crash = IsNothing refl refl refl refl
      by (Show x) = IsNothing refl refl refl refl
      by (Begin l k p) = IsNothing refl refl refl refl
      by (Call l x o) = IsNothing refl refl refl refl
      by (Include l x s) = IsNothing refl refl refl refl
      by (Commit l) = IsNothing refl refl refl refl
      by (Abort l) = IsNothing refl refl refl refl
      by (GiveUp l) = IsNothing refl refl refl refl

  -- each step has its shape
  pub step_shape : (i : Input) → Shape hd n i (step.step hd n i)
  step_shape i = by (refusal hd i n) refl
    where
      live : (o : Option Parts) → n.live ≡ o → Shape hd n i (step_of hd i n o)
      live None is = down_shape i is
      live (Some t) is = up_shape t i is

      by : (r : Option ℕ) → refusal hd i n ≡ r → Shape hd n i (step_unless hd i n r)
      by (Some c) is = IsRefusal c is refl
      by None is = live n.live refl
