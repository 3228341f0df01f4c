-- `sweep::sums_in` meets its contract.
use native.Mathlib.Omega.{arith}
use Rattle.linecode.specs.Places.{places}
use Rattle.linecode.proofs.Positions.{sum_lt}
use Rattle.sweep.proofs.Fields.{held-lt, line-positions, line-matches}
use Rattle.sweep.proofs.BothSums.{flag-small, flagged}
use Rattle.sweep.proofs.sums_in.Goals as goal

pub overflow_mul-stored : goal.overflow_mul-stored
overflow_mul-stored c = omega (arith, held-lt c.args.line.now c.told-line c.fits-line _ c.blocks-sums.ensures _ c.from_le_bytes-stored.ensures)

-- ten bits fit the result
pub overflow_cast-positions : goal.overflow_cast-positions
overflow_cast-positions c =
    omega (
      arith,
      sum_lt _ _
          (line-positions c.args.line.now c.told-line c.fits-line _ c.blocks-sums.ensures _ c.from_le_bytes-stored.ensures c.carried-c.result _
          c.carried-c.ensures.1 c.positions_from-positions.ensures),
    )

pub overflow_add-result : goal.overflow_add-result
overflow_add-result c =
    omega (
      arith,
      sum_lt _ _
          (line-positions c.args.line.now c.told-line c.fits-line _ c.blocks-sums.ensures _ c.from_le_bytes-stored.ensures c.carried-c.result _
          c.carried-c.ensures.1 c.positions_from-positions.ensures),
      flag-small _ _ c.from.ensures,
    )

pub returns : goal.returns
returns c =
    flagged (places c.args.line.now) _ _ _
    (line-matches c.args.line.now c.told-line c.fits-line _ c.blocks-sums.ensures _ c.from_le_bytes-stored.ensures _ c.crc_of-crc.ensures)
    (line-positions c.args.line.now c.told-line c.fits-line _ c.blocks-sums.ensures _ c.from_le_bytes-stored.ensures c.carried-c.result _
    c.carried-c.ensures.1 c.positions_from-positions.ensures)
    c.from.ensures
