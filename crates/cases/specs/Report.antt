-- Document 01, "Store file": the report printed there on a store of zero bytes.
use Rattle.std.specs.Prelude.{◌≡◌, List, ◌++◌, ℕ, replicate}
use Rattle.storefile.specs.Header.{header}
use Rattle.report.specs.Report.{ascii, report_text}
use Rattle.report.specs.Check.{check_store}
use Rattle.report.specs.Program.{zero_buffers}

-- ---- "For a 2 by 2 store of zero bytes after its header it prints exactly"
abbrev pub zero_store : List ℕ
zero_store = header 2 2 ++ replicate 560 0

abbrev pub sample_report : List ℕ
sample_report =
    ascii "store 2 2\n"
    ++ ascii "clean 4\n"
    ++ ascii "alone 0\n"
    ++ ascii "trial 0\n"
    ++ ascii "rebuilt 0\n"
    ++ ascii "faulty 0\n"
    ++ ascii "passes 0\n"
    ++ ascii "answer 0\n"

abbrev pub ZeroStoreReport : Type 0
ZeroStoreReport = report_text (check_store 16 zero_store (zero_buffers 2 2)).checked ≡ sample_report
