use Rattle.std.proofs.Common.{◌≡◌, ◌∙◌, ℕ, None, Some, ap, rules, sym, true, false}
use Rattle.std.specs.Option.{option_map}
use Rattle.std.specs.Prelude.{nat_lt}
use Rattle.arj_base.specs.Mode.{mode_code, stronger}
use Rattle.arj_base.specs.declared.mode.Mode.{Mode}
use Rattle.arj_lock.specs.Locks.{rows_in, shown}
use Rattle.arj_lock.specs.declared.group.Group.TheVariants.{Own}
use Rattle.arj_lock.specs.declared.lock.Lock.{Lock}
use Rattle.arj_lock.proofs.Entries.{is_in_group}
use Rattle.arj_lock.proofs.Own.{own_changed, own_mode, own_none, own_same, weaker}
use Rattle.arj_lock.proofs.pass.raise.Goals as goal

pub returns-in_err-grant-clause-rows : goal.returns-in_err-grant-clause-rows
returns-in_err-grant-clause-rows c =
    own_none c.args.object c.args.holder (λ row. record row {
      mode =
          stronger row.mode c.args.mode;
    }) c.args.grants.now c.in_err-grant.ensures.first

pub returns-in_err-grant-clause-rose : goal.returns-in_err-grant-clause-rose
returns-in_err-grant-clause-rose c =
    c.from_residual.ensures ∙ sym (ap (option_map (λ (held : Mode). nat_lt (mode_code held) (mode_code c.args.mode))) (own_mode c.args.object c.args.holder c.args.grants.now None c.in_err-grant.ensures.first))

pub returns-then-lt-clause-rows : goal.returns-then-lt-clause-rows
returns-then-lt-clause-rows c =
    let e : ℕ × Lock = (c.in_ok-grant.grant, c.in_ok-grant.lock.now) in
    ap rows_in c.set.ensures
    ∙ own_changed c.args.object c.args.holder (λ row. record row {
      mode =
          stronger row.mode c.args.mode;
    }) c.args.grants.now e.0 e.1 c.in_ok-grant.ensures.at
    (is_in_group (Own c.args.object c.args.holder) c.args.grants.now e c.in_ok-grant.ensures.sorted c.in_ok-grant.ensures.first) c.requires c.with.result c.with.ensures

pub returns-then-lt-clause-rose : goal.returns-then-lt-clause-rose
returns-then-lt-clause-rose c =
    let e : ℕ × Lock = (c.in_ok-grant.grant, c.in_ok-grant.lock.now) in
    let rose : nat_lt (mode_code c.in_ok-grant.lock.now.mode) (mode_code c.args.mode) ≡ true = search rules in
    sym (ap (option_map (λ (held : Mode). nat_lt (mode_code held) (mode_code c.args.mode))) (own_mode c.args.object c.args.holder c.args.grants.now (Some e) c.in_ok-grant.ensures.first) ∙ ap Some rose)

pub returns-clause-rows : goal.returns-clause-rows
returns-clause-rows c =
    let e : ℕ × Lock = (c.in_ok-grant.grant, c.in_ok-grant.lock.now) in
    let weak : nat_lt (mode_code c.in_ok-grant.lock.now.mode) (mode_code c.args.mode) ≡ false = search rules in
    own_same c.args.object c.args.holder (λ row. record row {
      mode =
          stronger row.mode c.args.mode;
    }) c.args.grants.now e.0 e.1 c.in_ok-grant.ensures.at
    (is_in_group (Own c.args.object c.args.holder) c.args.grants.now e c.in_ok-grant.ensures.sorted c.in_ok-grant.ensures.first) c.requires (λ i. record (shown e.1) { mode = weaker e.1.mode c.args.mode weak i })

pub returns-clause-rose : goal.returns-clause-rose
returns-clause-rose c =
    let e : ℕ × Lock = (c.in_ok-grant.grant, c.in_ok-grant.lock.now) in
    let weak : nat_lt (mode_code c.in_ok-grant.lock.now.mode) (mode_code c.args.mode) ≡ false = search rules in
    sym (ap (option_map (λ (held : Mode). nat_lt (mode_code held) (mode_code c.args.mode))) (own_mode c.args.object c.args.holder c.args.grants.now (Some e) c.in_ok-grant.ensures.first) ∙ ap Some weak)
