-- Lists of changes that can be taken back, in each form.
use Rattle.std.specs.Prelude.{ℕ, List, [], ◌∷◌, ◌++◌, codes}
use Rattle.std.specs.Fmt.{decimal}
use Rattle.json.specs.Token.{Token, begin_object, end_object, key, string, number}
use Rattle.tune_undo.specs.declared.old_entries.EntryKind.{EntryKind}
use Rattle.tune_undo.specs.declared.old_entries.EntryKind.TheVariants as kind
use Rattle.desk_terms.specs.declared.form.Form.{Form}
use Rattle.desk_terms.specs.declared.form.Form.TheVariants.{Rows, Json, Csv}
use Rattle.desk_lists.specs.declared.change_rows.ChangeRow.{ChangeRow}
use Rattle.desk_lists.specs.JsonLists.{array_bytes, text_members}
use Rattle.desk_lists.specs.CsvTables.{record_bytes}

-- the command by which a change was made
abbrev pub change_word : EntryKind → List ℕ
change_word kind.Delete = codes "delete"
change_word kind.Replace = codes "replace"
change_word kind.Put = codes "put"
change_word kind.Cut = codes "cut"
change_word kind.Move = codes "move"
change_word kind.Drop = codes "drop"
change_word kind.Add = codes "add"
change_word kind.AddMore = codes "add"
change_word kind.Load = codes "load"
change_word kind.Kept = codes "kept"

-- ROWS
-- the number of the change, its command, and its subject
abbrev pub change_row_bytes : ChangeRow → List ℕ
change_row_bytes row =
    decimal row.number ++ codes " " ++ change_word row.kind ++ codes " " ++ row.subject
    ++ codes "\n"

abbrev pub change_rows_bytes : List ChangeRow → List ℕ
change_rows_bytes [] = []
change_rows_bytes (row ∷ rows) = change_row_bytes row ++ change_rows_bytes rows

-- JSON
abbrev pub kind_members : ChangeRow → List Token
kind_members row =
    key (codes "change") ∷ number (decimal row.number) ∷ key (codes "kind")
    ∷ string (change_word row.kind) ∷ []

abbrev pub change_object : ChangeRow → List Token
change_object row =
    begin_object ∷ (kind_members row
    ++ (text_members (codes "of") row.subject ++ end_object ∷ []))

abbrev pub change_objects : List ChangeRow → List Token
change_objects [] = []
change_objects (row ∷ rows) = change_object row ++ change_objects rows

-- CSV
abbrev pub change_fields : ChangeRow → List (List ℕ)
change_fields row = decimal row.number ∷ change_word row.kind ∷ row.subject ∷ []

abbrev pub change_records : List ChangeRow → List ℕ
change_records [] = []
change_records (row ∷ rows) = record_bytes (change_fields row) ++ change_records rows

abbrev pub change_columns : List (List ℕ)
change_columns = codes "change" ∷ codes "kind" ∷ codes "of" ∷ []

abbrev pub change_table : List ChangeRow → List ℕ
change_table rows = record_bytes change_columns ++ change_records rows

-- EACH FORM
abbrev pub change_list_bytes : Form → List ChangeRow → List ℕ
change_list_bytes Rows rows = change_rows_bytes rows
change_list_bytes Json rows = array_bytes (change_objects rows)
change_list_bytes Csv rows = change_table rows
