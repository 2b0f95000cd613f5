-- Lists of tunes that are there twice, in each form.
use Rattle.std.specs.Prelude.{ℕ, List, [], ◌∷◌, ◌++◌, codes}
use Rattle.std.specs.Fmt.{decimal}
use Rattle.json.specs.Token.{Token, begin_object, end_object, key, string, number}
use Rattle.tune_scripts.specs.Replies.{title_bytes}
use Rattle.desk_terms.specs.declared.form.Form.{Form}
use Rattle.desk_terms.specs.declared.form.Form.TheVariants.{Rows, Json, Csv}
use Rattle.desk_lists.specs.declared.twins.Alike.{Alike}
use Rattle.desk_lists.specs.declared.twins.Alike.TheVariants.{Text, Opening}
use Rattle.desk_lists.specs.declared.twins.TwinRow.{TwinRow}
use Rattle.desk_lists.specs.JsonLists.{array_bytes, title_members}
use Rattle.desk_lists.specs.CsvTables.{record_bytes, title_field}

abbrev pub alike_bytes : Alike → List ℕ
alike_bytes Text = codes "text"
alike_bytes Opening = codes "opening"

-- ROWS
-- the number of the later tune and that of its twin, in what they are alike, and the title of the
-- later tune where it has one
abbrev pub twin_row_bytes : TwinRow → List ℕ
twin_row_bytes row =
    decimal row.number ++ codes " " ++ decimal row.twin ++ codes " " ++ alike_bytes row.alike
    ++ title_bytes row.title ++ codes "\n"

abbrev pub twin_rows_bytes : List TwinRow → List ℕ
twin_rows_bytes [] = []
twin_rows_bytes (row ∷ rows) = twin_row_bytes row ++ twin_rows_bytes rows

-- JSON
abbrev pub pair_members : TwinRow → List Token
pair_members row =
    key (codes "number") ∷ number (decimal row.number) ∷ key (codes "twin")
    ∷ number (decimal row.twin) ∷ key (codes "alike") ∷ string (alike_bytes row.alike) ∷ []

abbrev pub twin_object : TwinRow → List Token
twin_object row =
    begin_object ∷ (pair_members row ++ (title_members row.title ++ end_object ∷ []))

abbrev pub twin_objects : List TwinRow → List Token
twin_objects [] = []
twin_objects (row ∷ rows) = twin_object row ++ twin_objects rows

-- CSV
abbrev pub twin_fields : TwinRow → List (List ℕ)
twin_fields row =
    decimal row.number ∷ decimal row.twin ∷ alike_bytes row.alike ∷ title_field row.title ∷ []

abbrev pub twin_records : List TwinRow → List ℕ
twin_records [] = []
twin_records (row ∷ rows) = record_bytes (twin_fields row) ++ twin_records rows

abbrev pub twin_columns : List (List ℕ)
twin_columns = codes "number" ∷ codes "twin" ∷ codes "alike" ∷ codes "title" ∷ []

abbrev pub twin_table : List TwinRow → List ℕ
twin_table rows = record_bytes twin_columns ++ twin_records rows

-- EACH FORM
abbrev pub twin_list_bytes : Form → List TwinRow → List ℕ
twin_list_bytes Rows rows = twin_rows_bytes rows
twin_list_bytes Json rows = array_bytes (twin_objects rows)
twin_list_bytes Csv rows = twin_table rows
