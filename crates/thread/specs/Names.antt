-- The names of instructions, operations and models, as lists of byte values.
use Rattle.std.specs.Prelude.{ℕ, List, [], ◌∷◌, slice_index_or}

-- "then a name from the table above": the instructions by kind, 0 to 11
unfoldable pub instr_names : List (List ℕ)
instr_names =
    (115 ∷ 101 ∷ 116 ∷ [])  -- set
    ∷ (99 ∷ 111 ∷ 112 ∷ 121 ∷ [])  -- copy
    ∷ (97 ∷ 100 ∷ 100 ∷ [])  -- add
    ∷ (115 ∷ 117 ∷ 98 ∷ [])  -- sub
    ∷ (108 ∷ 111 ∷ 97 ∷ 100 ∷ [])  -- load
    ∷ (115 ∷ 116 ∷ 111 ∷ 114 ∷ 101 ∷ 114 ∷ [])  -- storer
    ∷ (115 ∷ 116 ∷ 111 ∷ 114 ∷ 101 ∷ 99 ∷ [])  -- storec
    ∷ (102 ∷ 101 ∷ 110 ∷ 99 ∷ 101 ∷ [])  -- fence
    ∷ (99 ∷ 97 ∷ 115 ∷ [])  -- cas
    ∷ (98 ∷ 114 ∷ 97 ∷ 110 ∷ 99 ∷ 104 ∷ [])  -- branch
    ∷ (106 ∷ 117 ∷ 109 ∷ 112 ∷ [])  -- jump
    ∷ (114 ∷ 101 ∷ 116 ∷ 117 ∷ 114 ∷ 110 ∷ [])  -- return
    ∷ []

unfoldable pub instr_name : ℕ → List ℕ
unfolding instr_names
instr_name kind = slice_index_or instr_names kind []

-- "Operations 0 to 12"
unfoldable pub op_names : List (List ℕ)
op_names =
    (115 ∷ 101 ∷ 116 ∷ [])  -- set
    ∷ (99 ∷ 111 ∷ 112 ∷ 121 ∷ [])  -- copy
    ∷ (97 ∷ 100 ∷ 100 ∷ [])  -- add
    ∷ (115 ∷ 117 ∷ 98 ∷ [])  -- sub
    ∷ (108 ∷ 111 ∷ 97 ∷ 100 ∷ [])  -- load
    ∷ (116 ∷ 97 ∷ 107 ∷ 101 ∷ [])  -- take
    ∷ (107 ∷ 101 ∷ 101 ∷ 112 ∷ 114 ∷ [])  -- keepr
    ∷ (107 ∷ 101 ∷ 101 ∷ 112 ∷ 99 ∷ [])  -- keepc
    ∷ (112 ∷ 97 ∷ 115 ∷ 115 ∷ [])  -- pass
    ∷ (99 ∷ 97 ∷ 115 ∷ [])  -- cas
    ∷ (105 ∷ 102 ∷ 110 ∷ 122 ∷ [])  -- ifnz
    ∷ (105 ∷ 102 ∷ 122 ∷ [])  -- ifz
    ∷ (112 ∷ 117 ∷ 116 ∷ [])  -- put
    ∷ []

unfoldable pub op_name : ℕ → List ℕ
unfolding op_names
op_name op = slice_index_or op_names op []

-- "First line `tso` or `pso`": the models 0 and 1
unfoldable pub model_names : List (List ℕ)
model_names =
    (116 ∷ 115 ∷ 111 ∷ [])  -- tso
    ∷ (112 ∷ 115 ∷ 111 ∷ [])  -- pso
    ∷ []

unfoldable pub model_name : ℕ → List ℕ
unfolding model_names
model_name model = slice_index_or model_names model []
