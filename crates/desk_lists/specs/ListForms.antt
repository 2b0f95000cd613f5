-- Lists of tunes and of set lists, in each form. Rows are those of the replies to a script.
use Rattle.std.specs.Prelude.{ℕ, List, ◌++◌, codes}
use Rattle.std.specs.Fmt.{decimal}
use Rattle.tune_sets.specs.declared.set_rows.SetRow.{SetRow}
use Rattle.tune_store.specs.declared.index_rows.IndexRow.{IndexRow}
use Rattle.tune_scripts.specs.Replies.{places_bytes, rows_bytes, set_rows_bytes}
use Rattle.desk_terms.specs.declared.form.Form.{Form}
use Rattle.desk_terms.specs.declared.form.Form.TheVariants.{Rows, Json, Csv}
use Rattle.desk_lists.specs.JsonLists.{array_bytes, place_objects, set_objects, tune_objects}
use Rattle.desk_lists.specs.CsvTables.{place_table, set_table, tune_table}

-- the number and the title of each tune
abbrev pub tune_list_bytes : Form → List IndexRow → List ℕ
tune_list_bytes Rows rows = rows_bytes rows
tune_list_bytes Json rows = array_bytes (tune_objects rows)
tune_list_bytes Csv rows = tune_table rows

-- the same with the place of each first, from 1 on
abbrev pub place_list_bytes : Form → List IndexRow → List ℕ
place_list_bytes Rows rows = places_bytes 1 rows
place_list_bytes Json rows = array_bytes (place_objects 1 rows)
place_list_bytes Csv rows = place_table rows

-- the name of each set list, and how many places it has
abbrev pub set_list_bytes : Form → List SetRow → List ℕ
set_list_bytes Rows rows = set_rows_bytes rows
set_list_bytes Json rows = array_bytes (set_objects rows)
set_list_bytes Csv rows = set_table rows

-- one number
abbrev pub count_line : ℕ → List ℕ
count_line count = decimal count ++ codes "\n"
