-- `entrytext::lent::put_entries` meets its contract.
-- Assumes nothing.
use mathlib.Core.Path.{◌≡◌, refl}
use native.Mathlib.Omega.{arith}
use borrow.Author.Rules.{rules}
use Rattle.digits.specs.Put.{Put}
use Rattle.entrytext.specs.Listing.{line_of}
use Rattle.entrytext.proofs.Listing.{line-short, none_lent, next_lent, some_lent}
use Rattle.entrytext.proofs.lent.put_entries.Goals as goal

pub loop-n-init : goal.loop-n-init
loop-n-init c = (omega arith, refl, none_lent _ _ c.args.out.now _ (omega arith))

pub returns-then-out-end-lt-LONGEST : goal.returns-then-out-end-lt-LONGEST
returns-then-out-end-lt-LONGEST c =
    record {
      put = c.loop-n.invariant.2;
      within = omega arith;
      some = λ more. some_lent _ _ c.args.out.now _ _ _ c.loop-n.invariant.2 (omega arith) (omega arith);
      fits = c.loop-n.invariant.0;
    }

pub put-end-requires : goal.put-end-requires
put-end-requires c =
    let is : c.bytes.result.now ≡ line_of c.entry_at.result = search rules in
    rw is (omega (arith, line-short c.entry_at.result))

pub loop-n-preserved : goal.loop-n-preserved
loop-n-preserved c =
    let is : c.bytes.result.now ≡ line_of c.entry_at.result = search rules in
    let put : Put c.loop-n.out c.loop-n.end (line_of c.entry_at.result) c.put-end.new.out c.put-end.result = rw (← is) c.put-end.ensures in (
      omega (arith, put.behind, line-short c.entry_at.result),
      search rules,
      next_lent _ _ c.args.out.now _ _ _ _ _ c.loop-n.n c.entry_at.result (omega arith) c.entry_at.ensures c.loop-n.invariant.2 put _ (omega arith),
    )
