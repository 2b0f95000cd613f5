-- Tables that are being written.
use Rattle.std.specs.Prelude.{◌≡◌, ℕ, List, ◌++◌, false}
use Rattle.std.specs.Prelude.{Vec}
use Rattle.csv.specs.declared.writer.Writer.{Writer}
use Rattle.csv.specs.Writing.{default_writer, fields_written, has_written, writer_pending}
use Rattle.csv.specs.Writing.{writer_setup, writer_under}

-- the bytes of a table so far
abbrev pub table_bytes : {A : Type 0} → Writer (Vec ℕ A) → List ℕ
table_bytes table = (writer_under table).items ++ writer_pending table

-- a table between two records
pub record IsOpenTable {A : Type 0} (table : Writer (Vec ℕ A)) : Type 0 where
  pub setup : writer_setup table ≡ default_writer
  pub fields : fields_written table ≡ 0
  pub wrote : has_written table ≡ false
