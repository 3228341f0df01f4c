-- `capi::sudoku_check_file` meets its contract.
use Rattle.capi.proofs.Files.{file-checked}
use Rattle.capi.proofs.sudoku_check_file.Goals as goal

pub returns : goal.returns
returns c = file-checked _ _ _ _ (rw c.from-checked.ensures c.check.ensures) c.numbers.ensures
